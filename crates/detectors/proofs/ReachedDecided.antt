-- The facts listed in the end are those reached.
use Rattle.std.proofs.Common.{◌≡◌, ℕ, zero, suc, ◌<◌, true, ◌&&◌, List, [], ◌∷◌, Some, Decides, sym, refl, ◌∙◌, subst, inl, inr, ⊎_elim, arith}
use Rattle.std.proofs.lemmas.List.{length-replicate}
use Rattle.std.proofs.lemmas.Bool.{cond_both, and_parts, and_from, not-true, not_from_false, false_from_ne_true, both_ways, false≢true}
use Rattle.first_come.specs.Arrivals.{Kept, arrived, has, Distinct, keep, keep_all}
use Rattle.first_come.proofs.Arrivals.{distinct_keep}
use Rattle.first_come.proofs.Listings.{keep_all_from, through_all, Holds, holds_on, holds_each, listed_if_held, Sized, sized_on}
use Rattle.model.specs.declared.row.Row.{Row}
use Rattle.model.specs.declared.moves.Move.{Move}
use Rattle.model.specs.Limits.{size_at}
use Rattle.lists.specs.Members.{Among}
use Rattle.model.specs.Records.{ModelRecord, Sealed, row_of_model}
use Rattle.model.specs.Rows.{at}
use Rattle.detectors.specs.declared.relaxed.fact.Fact.{Fact}
use Rattle.detectors.specs.Facts.{fact_of, same_fact, fact_number, row_facts, given_facts, all_reached}
use Rattle.detectors.specs.Closure.{try_move, round, rounds, closure, no_facts, first_facts, goal_missed}
use Rattle.detectors.specs.ReachedFacts.{Reached, at_first, added, SomeGoalFactNotReached, RelaxedDecides, RelaxedDecidesForEveryModel}
use Rattle.detectors.specs.FactMarking.{numbers_apart}
use Rattle.detectors.specs.SameFacts.{fact_self, fact_equal, same_fact_equivalence}
use Rattle.detectors.proofs.FactsOfRows.{given_fits, given_in, in_given, row_in, in_row, all_reached_each, all_reached_from, all_reached_fails}
use Rattle.detectors.proofs.Limited.{Limited, limited, move_limits}
use Rattle.detectors.proofs.Rounds.{room, closure_closed}

-- what every fact that comes keeps, the rounds keep
module _ (Q : Kept Fact → Type 0) (on : (k : Kept Fact) (f : Fact) → Q k → Q (keep same_fact k f)) where
  through_round : (k : Kept Fact) (ms : List Move) → Q k → Q (round k ms)
  through_round k [] q = q
  through_round k (m ∷ ms) q =
      through_round (try_move k m) ms (cond_both (all_reached (arrived k) m.conditions) _ _ Q (λ _. through_all same_fact Q on k (given_facts m.effects) q) (λ _. q))

  through_rounds : (n : ℕ) (k : Kept Fact) (ms : List Move) → Q k → Q (rounds n k ms)
  through_rounds zero k ms q = q
  through_rounds (suc n) k ms q = through_rounds n (round k ms) ms (through_round k ms q)

-- what moves pass on from their condition facts to their effect facts, holds of every fact listed
module _ (P : ℕ → ℕ → Type 0) (moves : List Move) (on : (m : Move) → Among moves m → ((u y : ℕ) → at m.conditions u ≡ Some y → P u y) → (v x : ℕ) → at m.effects v ≡ Some x → P v x) where
  abbrev Only : Kept Fact → Type 0
  Only k = (f : Fact) → has same_fact (arrived k) f ≡ true → P f.variable f.value

  only_try : (k : Kept Fact) (m : Move) → Among moves m → Only k → Only (try_move k m)
  only_try k m among o =
      cond_both (all_reached (arrived k) m.conditions) _ _ Only
      (λ enabled f h. ⊎_elim (o f)
      (λ t. on m among (λ u y q. o (fact_of u y) (all_reached_each (arrived k) m.conditions enabled u y q)) f.variable f.value (given_in m.effects f t))
      (keep_all_from same_fact k (given_facts m.effects) f h))
      (λ _. o)

  only_round : (k : Kept Fact) (ms : List Move) → ((m : Move) → Among ms m → Among moves m) → Only k → Only (round k ms)
  only_round k [] incl o = o
  only_round k (m ∷ ms) incl o = only_round (try_move k m) ms (λ n a. incl n (inr a)) (only_try k m (incl m (inl refl)) o)

  only_rounds : (n : ℕ) (k : Kept Fact) → Only k → Only (rounds n k moves)
  only_rounds zero k o = o
  only_rounds (suc n) k o = only_rounds n (round k moves) (only_round k moves (λ _ a. a) o)

module _ (d : ModelRecord) (row : Row) where
  abbrev first : Kept Fact
  first = first_facts d row

  abbrev final : Kept Fact
  final = closure first d.moves

  -- only facts of the row are there at first
  first_only : (f : Fact) → has same_fact (arrived first) f ≡ true → has same_fact (row_facts d.variables row) f ≡ true
  unfolding first_facts
  first_only f h = ⊎_elim (λ e. absurd (false≢true e)) (λ t. t) (keep_all_from same_fact no_facts (row_facts d.variables row) f h)

  -- and each of them came
  first_holds : (f : Fact) → has same_fact (row_facts d.variables row) f ≡ true → Holds same_fact fact_self fact_equal f first
  unfolding first_facts
  first_holds f h = holds_each same_fact fact_self fact_equal no_facts (row_facts d.variables row) f h

  through_first : (Q : Kept Fact → Type 0) → ((k : Kept Fact) (f : Fact) → Q k → Q (keep same_fact k f)) → Q no_facts → Q first
  unfolding first_facts
  through_first Q on q = through_all same_fact Q on no_facts (row_facts d.variables row) q

  through_final : (Q : Kept Fact → Type 0) → ((k : Kept Fact) (f : Fact) → Q k → Q (keep same_fact k f)) → Q first → Q final
  through_final Q on q = through_rounds Q on (room first) first d.moves q

  first_sized : Sized 512 first
  first_sized = through_first (Sized 512) (sized_on same_fact 512) (length-replicate 512 (fact_of 0 0), omega arith)

  final_sized : Sized 512 final
  final_sized = through_final (Sized 512) (sized_on same_fact 512) first_sized

  abbrev Apart : Kept Fact → Type 0
  Apart k = Distinct same_fact (arrived k)

  final_apart : Apart final
  final_apart = through_final Apart (distinct_keep same_fact same_fact_equivalence) (through_first Apart (distinct_keep same_fact same_fact_equivalence) tt)

  module _ (sealed : Sealed d) (fits : row_of_model d row ≡ true) where
    -- every fact listed is reached
    listed_reached : (f : Fact) → has same_fact (arrived final) f ≡ true → Reached d row f.variable f.value
    listed_reached =
        only_rounds (Reached d row) d.moves added (room first) first
        (λ f t. let r = row_in d.variables row fits f (first_only f t) in at_first f.variable f.value r.0 r.1)

    abbrev Below : ℕ → ℕ → Type 0
    Below v x = x < size_at d.variables v

    effects_below : (m : Move) → Among d.moves m → (v x : ℕ) → at m.effects v ≡ Some x → Below v x
    effects_below m among v x g = given_fits d.variables m.effects (move_limits d sealed m among).1 v x g

    listed_limited : (f : Fact) → has same_fact (arrived final) f ≡ true → Limited f
    listed_limited f h =
        limited d sealed f
        (only_rounds Below d.moves (λ m among _. effects_below m among) (room first) first (λ p t. (row_in d.variables row fits p (first_only p t)).0) f h)

    -- a full list has every fact within the limits, so what came is listed
    came_listed : (f : Fact) → Limited f → Holds same_fact fact_self fact_equal f final → has same_fact (arrived final) f ≡ true
    came_listed f within h =
        listed_if_held same_fact fact_self fact_equal Limited fact_number 512
        (λ g limits. omega arith) (λ g p a b. numbers_apart g p a.1 b.1)
        final (omega (arith, final_sized.0)) final_sized.1 final_apart listed_limited f within h

    -- every fact reached is listed
    reached_listed : (v x : ℕ) → Reached d row v x → has same_fact (arrived final) (fact_of v x) ≡ true
    reached_listed _ _ (at_first v x l g) =
        let f = fact_of v x in
        let within = limited d sealed f l in
        came_listed f within
        (through_final (Holds same_fact fact_self fact_equal f) (holds_on same_fact fact_self fact_equal f) (first_holds f (in_row d.variables row v x within.0 l g)))
    reached_listed _ _ (added m among conditions v x g) =
        let f = fact_of v x in
        let enabled = all_reached_from (arrived final) m.conditions (λ u y q. reached_listed u y (conditions u y q)) in
        let tried : try_move final m ≡ keep_all same_fact final (given_facts m.effects) = rw enabled refl in
        came_listed f (limited d sealed f (effects_below m among v x g))
        (subst (Holds same_fact fact_self fact_equal f) (sym tried ∙ closure_closed first d.moves first_sized.1 m among)
        (holds_each same_fact fact_self fact_equal final (given_facts m.effects) f (in_given m.effects v x g)))

    missed_decides : Decides (goal_missed d row) (SomeGoalFactNotReached d row)
    unfolding goal_missed
    missed_decides = (
      (λ missed. let r = all_reached_fails (arrived final) d.goal (not-true (all_reached (arrived final) d.goal) missed) in
          (r.0, r.1, r.2, λ reached. both_ways (has same_fact (arrived final) (fact_of r.0 r.1)) r.3 (reached_listed r.0 r.1 reached))),
      (λ some. not_from_false (all_reached (arrived final) d.goal) (false_from_ne_true (all_reached (arrived final) d.goal)
          (λ all. some.3 (listed_reached (fact_of some.0 some.1) (all_reached_each (arrived final) d.goal all some.0 some.1 some.2))))),
    )

pub relaxed_decides : (d : ModelRecord) → Sealed d → RelaxedDecides d
unfolding RelaxedDecides
relaxed_decides d sealed row =
    let parts = λ (dead : row_of_model d row && goal_missed d row ≡ true). and_parts (row_of_model d row) (goal_missed d row) dead in (
      (λ dead. ((parts dead).0, (missed_decides d row sealed (parts dead).0).0 (parts dead).1)),
      (λ some. and_from (row_of_model d row) (goal_missed d row) some.0 ((missed_decides d row sealed some.0).1 some.1)),
    )

pub relaxed_decides_for_every_model : RelaxedDecidesForEveryModel
unfolding RelaxedDecidesForEveryModel
relaxed_decides_for_every_model = relaxed_decides
