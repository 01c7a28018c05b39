use Rattle.std.proofs.Common.{[], ◌∷◌}
use Rattle.first_come.specs.Arrivals.{keep_all}
use Rattle.detectors.specs.Facts.{fact_of, same_fact, values_of}
use Rattle.detectors.specs.ReachedList.{facts}
use Rattle.detectors.proofs.FactsOfRows.{StillToList}
use Rattle.detectors.proofs.relaxed.reaching.Reached.list_values.Given as goal

abbrev pub invariant-loop-value : goal.invariant-loop-value
invariant-loop-value l =
    StillToList (λ x. fact_of l.variable x ∷ []) l.size l.value (facts l.self) (keep_all same_fact (facts l.initial.self) (values_of l.variable l.size))
