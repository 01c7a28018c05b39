use Rattle.first_come.specs.Arrivals.{keep_all}
use Rattle.detectors.specs.Facts.{same_fact, given_at, given_facts}
use Rattle.detectors.specs.ReachedList.{facts}
use Rattle.detectors.proofs.FactsOfRows.{StillToList}
use Rattle.detectors.proofs.relaxed.reaching.Reached.list_given.Given as goal

abbrev pub invariant-loop-variable : goal.invariant-loop-variable
invariant-loop-variable l =
    StillToList (given_at l.row) 32 l.variable (facts l.self) (keep_all same_fact (facts l.initial.self) (given_facts l.row))
