use Rattle.std.proofs.Common.{length, List, ap, sym, subst, arith}
use Rattle.model.specs.declared.row.Row.{Row}
use Rattle.model.specs.declared.variable.Variable.{Variable}
use Rattle.book.proofs.TakenEntries.{TakenBelow, none_taken, open_is_refused, all_are_taken}
use Rattle.book.proofs.taking.take_entries.Goals as goal

pub loop-variable-init : goal.loop-variable-init
loop-variable-init c = subst (λ (state : Row). TakenBelow 0 c.args.row.now state) (sym c.open-state.ensures) (none_taken c.args.row.now)

pub returns-in_default : goal.returns-in_default
returns-in_default c =
    let as_many = ap (λ (vs : List Variable). length vs) c.variables-variable-end.ensures in
    open_is_refused c.args.model.now.domain.variables.items c.args.row.now c.loop-variable.variable (omega (arith, as_many)) c.in_default.ensures

pub returns : goal.returns
returns c =
    let as_many = ap (λ (vs : List Variable). length vs) c.variables-variable-end.ensures in
    all_are_taken c.args.model.now.domain.variables.items c.args.row.now c.loop-variable.variable c.loop-variable.state (omega (arith, as_many)) (omega (arith, as_many)) (omega (arith, as_many)) c.requires c.loop-variable.invariant
