use Rattle.std.proofs.Common.{None, sym, ◌∙◌, rules}
use borrow.Author.Tests.{tests}
use Rattle.model.specs.Moves.{next_entry}
use Rattle.model.specs.SameRows.{row_ext}
use Rattle.lists.proofs.Chains.{array_made}
use Rattle.model.proofs.RowFacts.{at_row_of}
use Rattle.model.proofs.moves.Move.progression.Goals as goal

pub returns-clause-answer : goal.returns-clause-answer
returns-clause-answer c =
    let next = next_entry c.args.self.now c.args.row.now in
    row_ext _ _ (λ k l. array_made _ next _ (λ i y q called. search (rules, tests)) c.from_fn.result 32 c.from_fn.ensures.items k l None ∙ sym (at_row_of next k l))
