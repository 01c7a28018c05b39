use Rattle.std.proofs.Common.{◌<◌, vec_items, vec_len, ap, ◌∙◌, arith, rules}
use Rattle.model.specs.Limits.{moves_fit}
use Rattle.model.specs.Writing.{with_moves}
use Rattle.model.specs.Drafts.{drafted}
use Rattle.model.proofs.LastMove.{written_last}
use Rattle.model.proofs.LimitFacts.{entered_in_last_fits}
use Rattle.model.proofs.StepFacts.{part_step}
use Rattle.model.proofs.domain.Domain.enter_part.Goals as goal

pub invariant_of-self-clause-fit : goal.invariant_of-self-clause-fit
invariant_of-self-clause-fit c =
    let self = c.args.self.now in
    let table = self.moves.moves in
    let some : 0 < vec_len table = omega (arith, c.requires, table.ok.0) in
    let after = ap vec_items (c.last.follows.holds _) ∙ written_last (vec_items table) (vec_len table) c.in-Some.last.now table.ok.0 some (search rules) (vec_items self.variables) _ c.args.part c.args.variable c.args.value _ c.as_slice.ensures.value c.enter_in_move.ensures.after in
    ap (moves_fit (vec_items self.variables)) after ∙ entered_in_last_fits _ c.args.part (vec_items table) c.args.variable c.args.value (omega (arith, self.few, self.variables.ok.0)) self.fit

pub returns-clause-after : goal.returns-clause-after
returns-clause-after c =
    let self = c.args.self.now in
    let table = self.moves.moves in
    let some : 0 < vec_len table = omega (arith, c.requires, table.ok.0) in
    let after = ap vec_items (c.last.follows.holds _) ∙ written_last (vec_items table) (vec_len table) c.in-Some.last.now table.ok.0 some (search rules) (vec_items self.variables) _ c.args.part c.args.variable c.args.value _ c.as_slice.ensures.value c.enter_in_move.ensures.after in
    ap (with_moves (drafted self)) after ∙ part_step c.args.part (drafted self) c.args.variable c.args.value
