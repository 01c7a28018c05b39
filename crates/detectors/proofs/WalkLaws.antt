-- What a walk lists.
use Rattle.std.proofs.Common.{◌≡◌, ℕ, zero, suc, ◌+◌, ◌<◌, ◌≤◌, true, List, [], ◌∷◌, Some, None, Option, sym, refl, ◌∙◌, subst, inl, inr, ⊎_elim, arith}
use Rattle.std.specs.List.{slice_get}
use Rattle.std.proofs.lemmas.List.{length-take-le}
use Rattle.std.proofs.Math.Bool.{or-false}
use Rattle.std.proofs.lemmas.Option.{slice_get_within}
use Rattle.std.proofs.lemmas.Bool.{cond_both, cases_eq, or_cases, or_left, or_right, false≢true}
use Rattle.first_come.specs.Arrivals.{Kept, arrived, has, keep, keep_all}
use Rattle.first_come.proofs.Listings.{keep_all_from, through_all, has_append, has_left, has_right, Holds, holds_on, holds_each, Sized, sized_on}
use Rattle.lists.proofs.Fronts.{nth_none}
use Rattle.first_come.proofs.Fronts.{nth_has, front_keep_all}
use Rattle.lists.specs.Members.{Among}
use Rattle.detectors.specs.declared.pattern.cut.Cut.{Cut}
use Rattle.detectors.specs.declared.pattern.cut.CutMove.{CutMove}
use Rattle.detectors.specs.Cuts.{same_cut, contained_cut, applicable_cut, progression_cut}
use Rattle.detectors.specs.CutWalk.{if_read, result_of, results, walk_from, some_contains}
use Rattle.detectors.specs.CutSameness.{cut_self, cut_equal}

-- one of the listed cuts contains the goal
pub container_listed : (goal : Cut) (ts : List Cut) → some_contains goal ts ≡ true → (s : Cut) × (has same_cut ts s ≡ true) × (contained_cut goal s ≡ true)
container_listed goal [] h = absurd (false≢true h)
container_listed goal (t ∷ ts) h =
    ⊎_elim (λ e. (t, or_left (same_cut t t) (has same_cut ts t) (cut_self t), e))
    (λ rest. let r = container_listed goal ts rest in (r.0, or_right (same_cut t r.0) (has same_cut ts r.0) r.1, r.2)) (or_cases (contained_cut goal t) (some_contains goal ts) h)

pub listed_container : (goal : Cut) (ts : List Cut) (s : Cut) → has same_cut ts s ≡ true → contained_cut goal s ≡ true → some_contains goal ts ≡ true
listed_container goal [] s h e = absurd (false≢true h)
listed_container goal (t ∷ ts) s h e =
    ⊎_elim (λ q. or_left (contained_cut goal t) (some_contains goal ts) (subst (λ u. contained_cut goal u ≡ true) (sym (cut_equal t s q)) e))
    (λ rest. or_right (contained_cut goal t) (some_contains goal ts) (listed_container goal ts s rest e)) (or_cases (same_cut t s) (has same_cut ts s) h)

-- where the moves lead from a cut
abbrev From : CutMove → Cut → Cut → Type 0
From m t s = (applicable_cut m t ≡ true) × (progression_cut m t ≡ s)

result_from : (m : CutMove) (t s : Cut) → has same_cut (result_of m t) s ≡ true → From m t s
result_from m t s =
    cond_both (applicable_cut m t) (progression_cut m t ∷ []) [] (λ l. has same_cut l s ≡ true → From m t s)
    (λ can h. (can, cut_equal (progression_cut m t) s (sym (or-false (same_cut (progression_cut m t) s)) ∙ h)))
    (λ _ h. absurd (false≢true h))

results_from : (ms : List CutMove) (t s : Cut) → has same_cut (results ms t) s ≡ true → (m : CutMove) × Among ms m × From m t s
results_from [] t s h = absurd (false≢true h)
results_from (m ∷ ms) t s h =
    ⊎_elim (λ a. (m, inl refl, result_from m t s a)) (λ b. let r = results_from ms t s b in (r.0, inr r.1, r.2)) (has_append same_cut (result_of m t) (results ms t) s h)

in_result : (m : CutMove) (t : Cut) → applicable_cut m t ≡ true → has same_cut (result_of m t) (progression_cut m t) ≡ true
in_result m t can = rw (can, cut_self (progression_cut m t)) refl

pub in_results : (ms : List CutMove) (t : Cut) (m : CutMove) → Among ms m → applicable_cut m t ≡ true → has same_cut (results ms t) (progression_cut m t) ≡ true
in_results [] t m a can = absurd a
in_results (n ∷ ns) t m a can =
    ⊎_elim
    (λ e. has_left same_cut (result_of n t) (results ns t) (progression_cut m t) (subst (λ o. has same_cut (result_of o t) (progression_cut m t) ≡ true) (sym e) (in_result m t can)))
    (λ b. has_right same_cut (result_of n t) (results ns t) (progression_cut m t) (in_results ns t m b can)) a

-- a step of the walk, by cases
walk_cases : (Q : Kept Cut → Type 0) (n place : ℕ) (k : Kept Cut) (ms : List CutMove) → (slice_get (arrived k) place ≡ None → Q k) → ((t : Cut) → slice_get (arrived k) place ≡ Some t → Q (walk_from n (place + 1) (keep_all same_cut k (results ms t)) ms)) → Q (walk_from (suc n) place k ms)
unfolding walk_from
walk_cases Q n place k ms end on = go (slice_get (arrived k) place) refl
  where
    go : (o : Option Cut) → slice_get (arrived k) place ≡ o → Q (if_read o k (λ t. walk_from n (place + 1) (keep_all same_cut k (results ms t)) ms))
    go None e = end e
    go (Some t) e = on t e

-- what every cut that comes keeps
pub through_walk : (Q : Kept Cut → Type 0) → ((k : Kept Cut) (s : Cut) → Q k → Q (keep same_cut k s)) → (ms : List CutMove) (n place : ℕ) (k : Kept Cut) → Q k → Q (walk_from n place k ms)
unfolding walk_from
through_walk Q on ms zero place k q = q
through_walk Q on ms (suc n) place k q =
    walk_cases Q n place k ms (λ _. q) (λ t _. through_walk Q on ms n (place + 1) (keep_all same_cut k (results ms t)) (through_all same_cut Q on k (results ms t) q))

-- a property of cuts that goes along with the moves
module _ (P : Cut → Type 0) (ms : List CutMove) (on : (m : CutMove) → Among ms m → (t : Cut) → P t → applicable_cut m t ≡ true → P (progression_cut m t)) where
  abbrev Only : Kept Cut → Type 0
  Only k = (s : Cut) → has same_cut (arrived k) s ≡ true → P s

  only_step : (k : Kept Cut) (t : Cut) → P t → Only k → Only (keep_all same_cut k (results ms t))
  only_step k t p only s h =
      ⊎_elim (only s) (λ new. let r = results_from ms t s new in subst P r.2.1 (on r.0 r.1 t p r.2.0)) (keep_all_from same_cut k (results ms t) s h)

  pub only_walk : (n place : ℕ) (k : Kept Cut) → Only k → Only (walk_from n place k ms)
  unfolding walk_from
  only_walk zero place k only = only
  only_walk (suc n) place k only =
      walk_cases Only n place k ms (λ _. only)
      (λ t read. only_walk n (place + 1) (keep_all same_cut k (results ms t)) (only_step k t (only t (nth_has same_cut cut_self (arrived k) place t read)) only))

-- every listed cut is taken
module _ (ms : List CutMove) where
  -- where the moves lead from a cut is listed, or the list is full
  abbrev Followed : Kept Cut → Cut → Type 0
  Followed k t = (s : Cut) → has same_cut (results ms t) s ≡ true → Holds same_cut cut_self cut_equal s k

  -- the cuts before a place are followed
  abbrev FollowedBefore : ℕ → Kept Cut → Type 0
  FollowedBefore place k = (i : ℕ) → i < place → (t : Cut) → slice_get (arrived k) i ≡ Some t → Followed k t

  abbrev pub AllFollowed : Kept Cut → Type 0
  AllFollowed k = (i : ℕ) (t : Cut) → slice_get (arrived k) i ≡ Some t → Followed k t

  followed_on : (place : ℕ) (k : Kept Cut) (t : Cut) → slice_get (arrived k) place ≡ Some t → FollowedBefore place k → FollowedBefore (place + 1) (keep_all same_cut k (results ms t))
  followed_on place k t read before i l u now s h =
      let listed = slice_get_within (arrived k) place t read in
      let was : slice_get (arrived k) i ≡ Some u = sym (front_keep_all same_cut k (results ms t) i (omega (arith, l, listed))).1 ∙ now in
      ⊎_elim
      (λ (e : i ≡ place). let q : u ≡ t = let w : slice_get (arrived k) place ≡ Some u = subst (λ j. slice_get (arrived k) j ≡ Some u) e was in cc in
      holds_each same_cut cut_self cut_equal k (results ms t) s (subst (λ y. has same_cut (results ms y) s ≡ true) q h))
      (λ ne. through_all same_cut (Holds same_cut cut_self cut_equal s) (holds_on same_cut cut_self cut_equal s) k (results ms t) (before i (omega (arith, l, ne)) u was s h))
      (cases_eq i place)

  pub walk_follows_all : (n place : ℕ) (k : Kept Cut) → Sized 512 k → 512 ≤ n + place → FollowedBefore place k → AllFollowed (walk_from n place k ms)
  unfolding walk_from
  walk_follows_all zero place k sized enough before =
      λ i t read. before i (omega (arith, slice_get_within (arrived k) i t read, length-take-le k.len k.places sized.1, sized.0, sized.1, enough)) t read
  walk_follows_all (suc n) place k sized enough before =
      walk_cases AllFollowed n place k ms
      (λ end i t read. before i (omega (arith, slice_get_within (arrived k) i t read, nth_none (arrived k) place end)) t read)
      (λ t read. walk_follows_all n (place + 1) (keep_all same_cut k (results ms t)) (through_all same_cut (Sized 512) (sized_on same_cut 512) k (results ms t) sized) (omega (arith, enough)) (followed_on place k t read before))
