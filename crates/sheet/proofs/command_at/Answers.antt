use Rattle.std.proofs.Common.{List, ℕ, length, drop, ap, ◌∙◌, length-drop, arith}
use Rattle.std.proofs.lemmas.List.{take_rest}
use Rattle.std.proofs.lemmas.Grind.{common_steps}
use Rattle.sheet.specs.Reading.{Told, reading}
use Rattle.sheet.proofs.CommandList.{no_longer}
use Rattle.sheet.proofs.command_at.Goals as goal

pub overflow_sub-next : goal.overflow_sub-next
overflow_sub-next c =
    let sheet = c.args.sheet.now in
    let place = c.args.place in
    let left = ap (λ (r : Told × List ℕ). length r.1) (c.read.ensures ∙ ap reading (take_rest sheet place)) in
    omega (arith, left, no_longer (drop place sheet), length-drop place sheet)

pub returns-clause-answer : goal.returns-clause-answer
returns-clause-answer c = grind (arith, common_steps, no_longer, take_rest)
