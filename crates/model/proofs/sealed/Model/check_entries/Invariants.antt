use Rattle.std.proofs.Common.{◌≡◌, ◌-◌}
use Rattle.model.specs.Drafts.{recorded}
use Rattle.model.specs.Rows.{at}
use Rattle.model.specs.WrongEntries.{value_checked, first_refusal, row_checked}
use Rattle.model.proofs.sealed.Model.check_entries.Given as goal

-- what is left of the row gives the whole answer
abbrev pub invariant-loop-variable : goal.invariant-loop-variable
invariant-loop-variable l =
    let vs = (recorded l.self).variables in
    first_refusal (λ i. value_checked vs i (at l.row i)) l.variable (32 - l.variable) ≡ row_checked vs l.row
