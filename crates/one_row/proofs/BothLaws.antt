-- The detector of one row keeps both laws.
use Rattle.std.proofs.Common.{◌≡◌, ℕ, true, List, [], ◌∷◌, subst, ⊎_elim}
use Rattle.std.proofs.lemmas.Bool.{and_parts, and_from, or_cases, not-true, both_ways}
use Rattle.model.specs.declared.row.Row.{Row}
use Rattle.model.specs.declared.moves.Move.{Move}
use Rattle.model.specs.RowLaws.{ContainmentIsTransitive}
use Rattle.model.specs.MoveLaws.{SmallerRowKeepsMovesApplicable, SmallerRowHasSmallerProgression}
use Rattle.model.specs.Rows.{contained, disagree}
use Rattle.model.specs.Moves.{applicable, progression}
use Rattle.model.specs.Plans.{Leads}
use Rattle.lists.specs.Members.{Among}
use Rattle.model.specs.Records.{ModelRecord, row_of_model}
use Rattle.model.proofs.Containment.{contained_transitive, contains_no_two}
use Rattle.lists.proofs.Members.{nth_among, all_among}
use Rattle.model.proofs.Progressions.{smaller_applicable, smaller_progression}
use Rattle.detector.specs.Laws.{Lawful}
use Rattle.one_row.specs.Standstill.{stays, all_stay, stands_still, one_row_dead}

module _ (d : ModelRecord) (r : Row) (apart : disagree r d.goal ≡ true) (stay : all_stay d.moves r ≡ true) where
  -- no state that contains the row contains the goal
  no_goal : (t : Row) → contained r t ≡ true → contained d.goal t ≡ true → ⊥
  no_goal t within goal = contains_no_two r d.goal t apart within goal

  -- a move that is applicable to a state that contains the row leads to one that does
  kept_by : (m : Move) → Among d.moves m → (s : Row) → contained r s ≡ true → applicable m s ≡ true → contained r (progression m s) ≡ true
  unfolding ContainmentIsTransitive SmallerRowKeepsMovesApplicable SmallerRowHasSmallerProgression
  kept_by m among s within can =
      ⊎_elim
      (λ (never : _). absurd (both_ways (applicable m r) (not-true (applicable m r) never) (smaller_applicable m r s within can)))
      (λ (stays_in : contained r (progression m r) ≡ true). contained_transitive r (progression m r) (progression m s) stays_in (smaller_progression m r s within can))
      (or_cases _ (contained r (progression m r)) (all_among (stays r) d.moves m stay among))

  kept_along : (ns : List ℕ) (s t : Row) → contained r s ≡ true → Leads d s ns t → contained r t ≡ true
  kept_along [] s t within same = subst (λ u. contained r u ≡ true) same within
  kept_along (n ∷ ns) s t within way = kept_along ns (progression way.0 s) t (kept_by way.0 (nth_among d.moves n way.0 way.1) s within way.2) way.3

pub one_row_lawful : (d : ModelRecord) (r : Row) → stands_still d r ≡ true → Lawful d (one_row_dead d r)
unfolding ContainmentIsTransitive
one_row_lawful d r still =
    let parts = and_parts (disagree r d.goal) (all_stay d.moves r) still in
    record {
      containing_rows_are_dead = λ s t dead fits inside. and_from (row_of_model d t) (contained r t) fits (contained_transitive r s t (and_parts (row_of_model d s) (contained r s) dead).1 inside);
      dead_states_have_no_plan = λ s state dead ns plan. no_goal d r parts.0 parts.1 plan.0 (kept_along d r parts.0 parts.1 ns s plan.0 (and_parts (row_of_model d s) (contained r s) dead).1 plan.1) plan.2;
    }
