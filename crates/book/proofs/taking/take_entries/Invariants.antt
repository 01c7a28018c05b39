use Rattle.book.proofs.TakenEntries.{TakenBelow}
use Rattle.book.proofs.taking.take_entries.Given as goal

-- what is taken so far
abbrev pub invariant-loop-variable : goal.invariant-loop-variable
invariant-loop-variable l = TakenBelow l.variable l.row l.state
