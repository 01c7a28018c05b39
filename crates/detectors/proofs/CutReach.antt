-- The walk lists exactly the cuts of the rows that are reached.
use Rattle.std.proofs.Common.{◌≡◌, ◌≤◌, true, List, [], ◌∷◌, map, replicate, Decides, sym, refl, ap, subst, inl, inr, ⊎_elim, arith}
use Rattle.std.proofs.lemmas.List.{length-replicate}
use Rattle.std.proofs.lemmas.Bool.{not-true, not_from_false, false_from_ne_true, both_ways, false≢true}
use Rattle.first_come.specs.Arrivals.{Kept, kept, arrived, has, Distinct, keep}
use Rattle.first_come.proofs.Arrivals.{distinct_keep}
use Rattle.first_come.proofs.Sameness.{from_equality}
use Rattle.first_come.proofs.Listings.{keep_from, Holds, holds_on, holds_now, listed_if_held, Sized, sized_on}
use Rattle.first_come.proofs.Fronts.{has_nth}
use Rattle.model.specs.declared.row.Row.{Row}
use Rattle.model.specs.declared.moves.Move.{Move}
use Rattle.lists.specs.Members.{Among}
use Rattle.model.specs.Records.{ModelRecord, row_of_model, Sealed}
use Rattle.detectors.specs.declared.pattern.cut.Cut.{Cut}
use Rattle.detectors.specs.declared.pattern.cut.CutMove.{CutMove}
use Rattle.detectors.specs.declared.pattern.variables.Variables.{Variables}
use Rattle.detectors.specs.Cuts.{cut_of, cut_move, same_cut, applicable_cut, progression_cut}
use Rattle.detectors.specs.CutWalk.{open_cut, walked, some_contains, cut_off}
use Rattle.detectors.specs.ReachedCuts.{NoCutRowContainsTheGoal}
use Rattle.detectors.specs.PatternMeaning.{product_of_sizes, gives}
use Rattle.detectors.specs.CutSameness.{cut_self, cut_equal}
use Rattle.detectors.proofs.Limited.{move_limits}
use Rattle.detectors.proofs.CutRows.{CutReached, first_reached, onward_reached, goal_not_reached, along_reached, cut_goal_inside}
use Rattle.detectors.proofs.CutCodes.{May, code_of, code_below, code_apart, progression_may, cut_may}
use Rattle.detectors.proofs.WalkLaws.{container_listed, listed_container, in_results, through_walk, only_walk, AllFollowed, walk_follows_all}

-- a first-come list of 512 cuts in which the first is listed
abbrev blank : Kept Cut
blank = kept (replicate 512 open_cut) 0

module _ (ms : List CutMove) (first : Cut) where
  abbrev begun : Kept Cut
  begun = keep same_cut blank first

  abbrev final : Kept Cut
  final = walked ms first

  -- what every cut that comes keeps
  final_keeps : (Q : Kept Cut → Type 0) → ((k : Kept Cut) (s : Cut) → Q k → Q (keep same_cut k s)) → Q begun → Q final
  unfolding walked
  final_keeps Q on q = through_walk Q on ms 512 0 begun q

  begun_only : (s : Cut) → has same_cut (arrived begun) s ≡ true → first ≡ s
  begun_only s h = ⊎_elim (λ e. absurd (false≢true e)) (cut_equal first s) (keep_from same_cut blank first s h)

  final_only : (P : Cut → Type 0) → ((m : CutMove) → Among ms m → (t : Cut) → P t → applicable_cut m t ≡ true → P (progression_cut m t)) → P first → (s : Cut) → has same_cut (arrived final) s ≡ true → P s
  unfolding walked
  final_only P on p = only_walk P ms on 512 0 begun (λ s h. subst P (begun_only s h) p)

  begun_sized : Sized 512 begun
  begun_sized = sized_on same_cut 512 blank first (length-replicate 512 open_cut, omega arith)

  final_sized : Sized 512 final
  final_sized = final_keeps (Sized 512) (sized_on same_cut 512) begun_sized

  abbrev Apart : Kept Cut → Type 0
  Apart k = Distinct same_cut (arrived k)

  final_apart : Apart final
  final_apart =
      let apart_on = distinct_keep same_cut (from_equality same_cut cut_self cut_equal) in
      final_keeps Apart apart_on (apart_on blank first tt)

  final_followed : AllFollowed ms final
  unfolding walked
  final_followed = walk_follows_all ms 512 0 begun begun_sized (omega arith) (λ i l. absurd (omega (arith, l)))

  first_held : Holds same_cut cut_self cut_equal first final
  first_held = final_keeps (Holds same_cut cut_self cut_equal first) (holds_on same_cut cut_self cut_equal first) (holds_now same_cut cut_self cut_equal blank first)

-- the elements of a list that is mapped
among_map : {X Y : Type 0} (f : X → Y) (xs : List X) (y : Y) → Among (map f xs) y → (x : X) × Among xs x × (f x ≡ y)
among_map f [] y a = absurd a
among_map f (x ∷ xs) y a = ⊎_elim (λ e. (x, inl refl, e)) (λ b. let r = among_map f xs y b in (r.0, inr r.1, r.2)) a

map_among : {X Y : Type 0} (f : X → Y) (xs : List X) (x : X) → Among xs x → Among (map f xs) (f x)
map_among f [] x a = absurd a
map_among f (y ∷ ys) x a = ⊎_elim (λ e. inl (ap f e)) (λ b. inr (map_among f ys x b)) a

module _
    (d : ModelRecord) (ok : Sealed d) (x : Variables) (small : product_of_sizes d.variables x ≤ 512)
    (row : Row) (fits : row_of_model d row ≡ true) (given : gives row x ≡ true) where
  abbrev ms : List CutMove
  ms = map (cut_move x) d.moves

  abbrev first : Cut
  first = cut_of x row

  abbrev Listed : Cut → Type 0
  Listed s = has same_cut (arrived (final ms first)) s ≡ true

  abbrev Inside : Cut → Type 0
  Inside = May d.variables x

  move_inside : (a : Move) → Among d.moves a → (s : Cut) → Inside s → Inside (progression_cut (cut_move x a) s)
  move_inside a among s m = progression_may d.variables x a (move_limits d ok a among).1 s m

  -- what goes along with the model's moves holds of every listed cut
  listed_only : (P : Cut → Type 0) → ((a : Move) → Among d.moves a → (t : Cut) → P t → applicable_cut (cut_move x a) t ≡ true → P (progression_cut (cut_move x a) t)) → P first → (s : Cut) → Listed s → P s
  listed_only P on p =
      final_only ms first P
      (λ m among t q can. let r = among_map (cut_move x) d.moves m among in
      subst (λ n. P (progression_cut n t)) r.2 (on r.0 r.1 t q (subst (λ n. applicable_cut n t ≡ true) (sym r.2) can)))
      p

  listed_inside : (s : Cut) → Listed s → Inside s
  listed_inside = listed_only Inside (λ a among t m _. move_inside a among t m) (cut_may d.variables x row fits given)

  -- the list has a place for every cut that may come
  listed_if_came : (s : Cut) → Inside s → Holds same_cut cut_self cut_equal s (final ms first) → Listed s
  listed_if_came s m h =
      let sized = final_sized ms first in
      listed_if_held same_cut cut_self cut_equal Inside (code_of d.variables x) 512
      (λ t n. omega (arith, small, code_below d.variables x t n)) (code_apart d.variables x)
      (final ms first) (omega (arith, sized.0)) sized.1 (final_apart ms first) listed_inside s m h

  -- from a listed cut the moves lead to listed cuts
  listed_onward : (a : Move) → Among d.moves a → (s : Cut) → Listed s → applicable_cut (cut_move x a) s ≡ true → Listed (progression_cut (cut_move x a) s)
  listed_onward a among s here can =
      let inside = listed_inside s here in
      let place = has_nth same_cut cut_equal (arrived (final ms first)) s here in
      let next = progression_cut (cut_move x a) s in
      listed_if_came next (move_inside a among s inside)
      (final_followed ms first place.0 s place.1 next (in_results ms s (cut_move x a) (map_among (cut_move x) d.moves a among) can))

  first_listed : Listed first
  first_listed = listed_if_came first (cut_may d.variables x row fits given) (first_held ms first)

  pub cut_off_decides : Decides (cut_off ms (cut_of x d.goal) first) (NoCutRowContainsTheGoal d x row)
  unfolding cut_off
  cut_off_decides =
      let goal = cut_of x d.goal in
      let cuts = arrived (final ms first) in (
        (λ off t reached inside. both_ways (some_contains goal cuts) (not-true (some_contains goal cuts) off)
            (listed_container goal cuts (cut_of x t) (along_reached x d row Listed first_listed listed_onward t reached) (cut_goal_inside x d row t inside))),
        (λ none. not_from_false (some_contains goal cuts) (false_from_ne_true (some_contains goal cuts)
            (λ some. let r = container_listed goal cuts some in
            goal_not_reached x d row none r.0 (listed_only (CutReached x d row) (onward_reached x d row) (first_reached x d row) r.0 r.1) r.2))),
      )
