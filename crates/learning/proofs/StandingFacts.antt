-- What standings say, and what becomes of it when one is put.
use Rattle.std.proofs.Common.{◌≡◌, ◌≢◌, ℕ, ◌+◌, ◌<◌, ◌≤◌, Bool, true, false, not, ◌&&◌, ◌||◌, List, ◌++◌, length, drop, get_or, sym, ap, subst, ◌∙◌, ⊎_elim, arith}
use Rattle.std.specs.List.{list_all}
use Rattle.std.proofs.lemmas.Bool.{or_left, or_right, cases_eq, cases_lt}
use Rattle.std.proofs.lemmas.List.{get_or_default, get_or_past, get_or-set_same, get_or-set_other, drop_more, drop_all}
use Rattle.model.specs.declared.row.Row.{Row}
use Rattle.model.specs.declared.moves.Move.{Move}
use Rattle.model.specs.Moves.{applicable, progression}
use Rattle.model.specs.Records.{ModelRecord}
use Rattle.rules.specs.Rules.{covers, stays_in, keeps_rule_2}
use Rattle.rules.proofs.Covering.{covers_both}
use Rattle.rules.proofs.RuleLaws.{stays_from}
use Rattle.learning.specs.Learns.{keeps_with}
use Rattle.learning.specs.declared.standing.Standing.{Standing}
use Rattle.learning.specs.declared.standing.Standing.TheVariants.{Unknown, Stays, Covered, Dead, LeadsOut}
use Rattle.learning.specs.declared.standings.Standings.{Standings}
use Rattle.learning.specs.Standings.{is_known, leads_out, Stands, standing_at, with_standing, AllStand}
use Rattle.learning.proofs.Covering.{covers_where}

-- a standing that is known tells whether the move stays in
module _ (dead : Row → Bool) (rows parts : List Row) (p : Row) (m : Move) where
  stays_told : (applicable m p ≡ true → (dead (progression m p) || covers (rows ++ parts) (progression m p)) ≡ true) → stays_in dead (rows ++ parts) p m ≡ true
  stays_told h = stays_from dead (rows ++ parts) p m h

  stands_told : (st : Standing) → is_known st ≡ true → Stands dead rows parts p m st → stays_in dead (rows ++ parts) p m ≡ not (leads_out st)
  stands_told (Unknown k) known h = cc
  stands_told Stays known h =
      let t = progression m p in
      stays_told (λ can. or_right (dead t) (covers (rows ++ parts) t) (covers_both rows parts t ∙ or_left (covers rows t) (covers parts t) (h can)))
  stands_told (Covered k) known h =
      let t = progression m p in
      stays_told (λ can. or_right (dead t) (covers (rows ++ parts) t) (covers_both rows parts t ∙ or_right (covers rows t) (covers parts t) (covers_where parts t k (h can))))
  stands_told Dead known h =
      let t = progression m p in
      stays_told (λ can. or_left (dead t) (covers (rows ++ parts) t) (h can))
  stands_told LeadsOut known h = h

  -- the same where it is asked whether the move leads out
  pub asked : (st : Standing) → is_known st ≡ true → Stands dead rows parts p m st → (answer out : Bool) → answer ≡ leads_out st → answer ≡ out → stays_in dead (rows ++ parts) p m ≡ not out
  asked st known h answer out is same = stands_told st known h ∙ ap not (sym is ∙ same)

pub same_item : {X : Type 0} (xs : List X) (n : ℕ) (x y : X) → n < length xs → x ≡ get_or xs n x → y ≡ get_or xs n y → x ≡ y
same_item xs n x y l p q = p ∙ get_or_default xs n x y l ∙ sym q

-- a standing that is put is the one to its move, if there is such a move; the others stay
pub at_other : (s : Standings) (n k : ℕ) (st : Standing) → k ≢ n → standing_at (with_standing s n st) k ≡ standing_at s k
at_other s n k st other = get_or-set_other s.by_move n k st (Unknown 0) other

pub at_same : (s : Standings) (n : ℕ) (st : Standing) → n < 128 → standing_at (with_standing s n st) n ≡ st
at_same s n st l = get_or-set_same s.by_move n st (Unknown 0) (omega (arith, s.full))

pub at_past : (s : Standings) (n : ℕ) → 128 ≤ n → standing_at s n ≡ Unknown 0
at_past s n l = get_or_past s.by_move n (Unknown 0) (omega (arith, s.full))

module _ (d : ModelRecord) (dead : Row → Bool) (rows parts : List Row) (p : Row) where
  -- a right one may be put
  pub still_right : (s : Standings) → AllStand d dead rows parts p s → (n : ℕ) (m : Move) (st : Standing) → n < length d.moves → m ≡ get_or d.moves n m → Stands dead rows parts p m st → AllStand d dead rows parts p (with_standing s n st)
  unfolding AllStand
  still_right s right n m st l read stands = λ k q within is. ⊎_elim
      (λ (same : k ≡ n).
      let one : m ≡ q = same_item d.moves n m q l read (rw same at is) in
      subst (λ j. Stands dead rows parts p q (standing_at (with_standing s n st) j)) (sym same)
      (⊎_elim
      (λ (few : n < 128). rw (at_same s n st few) (subst (λ x. Stands dead rows parts p x st) one stands))
      (λ (many : 128 ≤ n). rw (at_past (with_standing s n st) n many) tt)
      (cases_lt n 128)))
      (λ (other : k ≢ n). rw (at_other s n k st other) (right k q within is))
      (cases_eq k n)

  -- a standing of these moves is read, and one that is known is put
  module _ (moves : List Move) (of_model : moves ≡ d.moves) (s : Standings) (right : AllStand d dead rows parts p s) (n : ℕ) (m : Move) (within : n < length moves) (read : m ≡ get_or moves n m) where
    within_model : n < length d.moves
    within_model = subst (λ (ms : List Move). n < length ms) of_model within

    read_of_model : m ≡ get_or d.moves n m
    read_of_model = subst (λ ms. m ≡ get_or ms n m) of_model read

    pub right_read : (st : Standing) → st ≡ standing_at s n → Stands dead rows parts p m st
    unfolding AllStand
    right_read st is = subst (Stands dead rows parts p m) (sym is) (right n m within_model read_of_model)

    pub right_put : (st : Standing) → Stands dead rows parts p m st → (next : Standings) → next ≡ with_standing s n st → AllStand d dead rows parts p next
    right_put st stands next is = subst (AllStand d dead rows parts p) (sym is) (still_right s right n m st within_model read_of_model stands)

-- what is left of the moves gives the whole answer
module _ {X : Type 0} (test : X → Bool) (xs : List X) (i : ℕ) (whole : Bool) (left : list_all test (drop i xs) ≡ whole) where
  module _ (x : X) (within : i < length xs) (read : x ≡ get_or xs i x) where
    one_more : list_all test (drop i xs) ≡ (test x && list_all test (drop (i + 1) xs))
    one_more = rw (drop_more xs i x within, sym read)

    pub one_fails : test x ≡ false → true ≡ not whole
    one_fails fails = ap not (sym (rw fails at one_more) ∙ left)

    pub one_passes : test x ≡ true → list_all test (drop (i + 1) xs) ≡ whole
    one_passes passes = sym (rw passes at one_more) ∙ left

  pub all_passed : length xs ≤ i → whole ≡ true
  all_passed long = sym left ∙ rw (drop_all i xs long)

pub keeps_told : (d : ModelRecord) (dead : Row → Bool) (rows parts : List Row) (p : Row) (moves : List Move) → moves ≡ d.moves → list_all (stays_in dead (rows ++ parts) p) moves ≡ keeps_with d dead rows parts p
unfolding keeps_rule_2
keeps_told d dead rows parts p moves same = ap (list_all (stays_in dead (rows ++ parts) p)) same
