use Rattle.first_come.specs.Arrivals.{keep_all}
use Rattle.model.specs.Drafts.{recorded}
use Rattle.detectors.specs.Facts.{same_fact, facts_at, row_facts}
use Rattle.detectors.specs.ReachedList.{facts}
use Rattle.detectors.proofs.FactsOfRows.{StillToList}
use Rattle.detectors.proofs.relaxed.reaching.Reached.list_row.Given as goal

abbrev pub invariant-loop-variable : goal.invariant-loop-variable
invariant-loop-variable l =
    StillToList (facts_at (recorded l.model).variables l.row) 32 l.variable (facts l.self) (keep_all same_fact (facts l.initial.self) (row_facts (recorded l.model).variables l.row))
