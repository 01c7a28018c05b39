-- The relaxed detector keeps both laws.
use Rattle.std.proofs.Common.{◌≡◌, ℕ, true, false, List, [], ◌∷◌, length, is_some, Some, None, Option, sym, refl, ap, ◌∙◌, subst, arith}
use Rattle.std.proofs.lemmas.Bool.{and_parts, false≢true, eqb-true, eq-eqb}
use Rattle.std.proofs.lemmas.Bool.Decides.{nat_tests}
use Rattle.model.specs.declared.row.Row.{Row}
use Rattle.model.specs.declared.moves.Move.{Move}
use Rattle.model.specs.Limits.{move_fits, complete}
use Rattle.lists.specs.Members.{Among}
use Rattle.model.specs.Moves.{or_else, next_entry, applicable, progression}
use Rattle.model.specs.Plans.{Leads, Plan}
use Rattle.model.specs.Records.{ModelRecord, Sealed, row_of_model, state_of_model}
use Rattle.model.specs.Rows.{at, keeps, differ, contained}
use Rattle.lists.proofs.BelowFacts.{all_below_decides}
use Rattle.model.proofs.Containment.{contained_at}
use Rattle.lists.proofs.Members.{nth_among, all_among}
use Rattle.model.proofs.Progressions.{differ_nowhere, state_progresses}
use Rattle.model.proofs.RowFacts.{at_row_of}
use Rattle.detector.specs.Laws.{Lawful}
use Rattle.detectors.specs.Closure.{relaxed_dead}
use Rattle.detectors.specs.ReachedFacts.{agrees, Reached, at_first, added, RelaxedDecides}
use Rattle.detectors.proofs.CutLaws.{keeps_given}
use Rattle.detectors.proofs.FactsOfRows.{given_below, given_fits}
use Rattle.detectors.proofs.Limited.{sized_below, move_limits}
use Rattle.detectors.proofs.ReachedDecided.{relaxed_decides}

keeps_agrees : (a b : Option ℕ) (x : ℕ) → keeps a b ≡ true → agrees b x ≡ true → agrees a x ≡ true
keeps_agrees None b x k h = refl
keeps_agrees (Some v) None x k h = absurd (false≢true k)
keeps_agrees (Some v) (Some w) x k h = grind (arith, nat_tests)

-- a given entry that does not differ from a value gives that value
given_same : (x : ℕ) (e : Option ℕ) → is_some e ≡ true → differ (Some x) e ≡ false → e ≡ Some x
given_same x None h k = absurd (false≢true h)
given_same x (Some z) h k = ap (λ n. Some n) (sym (eqb-true x z (grind (arith, nat_tests))))

module _ (d : ModelRecord) (sealed : Sealed d) where
  -- from a row that contains another, no more is reached
  reached_from_smaller : (r t : Row) → contained r t ≡ true → (v x : ℕ) → Reached d t v x → Reached d r v x
  reached_from_smaller r t h _ _ (at_first v x l g) =
      at_first v x l (keeps_agrees (at r v) (at t v) x (contained_at r t h v (omega (arith, sealed.at_most_32_variables, sized_below d.variables v x l))) g)
  reached_from_smaller r t h _ _ (added m among conditions v x g) = added m among (λ u y q. reached_from_smaller r t h u y (conditions u y q)) v x g

  -- all facts of a row are reached from another
  abbrev FactsReached : Row → Row → Type 0
  FactsReached from row = (v x : ℕ) → at row v ≡ Some x → Reached d from v x

  own_reached : (s : Row) → row_of_model d s ≡ true → FactsReached s s
  own_reached s fits v x q = at_first v x (given_fits d.variables s fits v x q) (subst (λ e. agrees e x ≡ true) (sym q) (eq-eqb x x refl))

  module _ (from : Row) where
    conditions_reached : (m : Move) → Among d.moves m → (s : Row) → state_of_model d s ≡ true → FactsReached from s → applicable m s ≡ true → FactsReached from m.conditions
    conditions_reached m among s state reached can u y q =
        let within = sized_below d.variables u y (given_fits d.variables m.conditions (move_limits d sealed m among).0 u y q) in
        let whole = (and_parts (row_of_model d s) (complete d.variables s) state).1 in
        let given = (all_below_decides (λ i. is_some (at s i)) (length d.variables)).0 whole u within in
        let apart = differ_nowhere m s can u (given_below m.conditions u y q) in
        reached u y (given_same y (at s u) given (subst (λ e. differ e (at s u) ≡ false) q apart))

    next_reached : (v x : ℕ) (e t c : Option ℕ) → (e ≡ Some x → Reached d from v x) → (t ≡ Some x → Reached d from v x) → (c ≡ Some x → Reached d from v x) → or_else e (or_else t c) ≡ Some x → Reached d from v x
    next_reached v x (Some w) t c by_effect by_entry by_condition q = by_effect q
    next_reached v x None (Some w) c by_effect by_entry by_condition q = by_entry q
    next_reached v x None None c by_effect by_entry by_condition q = by_condition q

    step_reached : (m : Move) → Among d.moves m → (s : Row) → state_of_model d s ≡ true → FactsReached from s → applicable m s ≡ true → FactsReached from (progression m s)
    step_reached m among s state reached can v x q =
        let conditions = conditions_reached m among s state reached can in
        next_reached v x (at m.effects v) (at s v) (at m.conditions v) (added m among conditions v x) (reached v x) (conditions v x)
        (sym (at_row_of (next_entry m s) v (given_below (progression m s) v x q)) ∙ q)

    -- where moves lead from a state, all facts are reached
    leads_reached : (ns : List ℕ) (s t : Row) → state_of_model d s ≡ true → FactsReached from s → Leads d s ns t → FactsReached from t
    leads_reached [] s t state reached same = subst (FactsReached from) same reached
    leads_reached (n ∷ ns) s t state reached way =
        let m = way.0 in
        let among = nth_among d.moves n m way.1 in
        leads_reached ns (progression m s) t (state_progresses d m s (all_among (move_fits d.variables) d.moves m sealed.move_values_below_sizes among) state) (step_reached m among s state reached way.2) way.3

  -- so from a state with a plan the goal facts are reached
  goal_reached : (s : Row) → state_of_model d s ≡ true → (ns : List ℕ) → Plan d s ns → FactsReached s d.goal
  goal_reached s state ns plan v x q =
      let fits = (and_parts (row_of_model d s) (complete d.variables s) state).0 in
      let kept = contained_at d.goal plan.0 plan.2 v (given_below d.goal v x q) in
      leads_reached s ns s plan.0 state (own_reached s fits) plan.1 v x (sym (keeps_given (at d.goal v) (at plan.0 v) kept (ap is_some q)) ∙ q)

  pub relaxed_lawful : Lawful d (relaxed_dead d)
  unfolding RelaxedDecides
  relaxed_lawful = record {
    containing_rows_are_dead = λ r t dead fits within.
        let some = ((relaxed_decides d sealed r).0 dead).1 in
        (relaxed_decides d sealed t).1 (fits, (some.0, some.1, some.2, λ reached. some.3 (reached_from_smaller r t within some.0 some.1 reached)));
    dead_states_have_no_plan = λ s state dead ns plan.
        let some = ((relaxed_decides d sealed s).0 dead).1 in
        some.3 (goal_reached s state ns plan some.0 some.1 some.2);
  }
