use Rattle.std.proofs.Common.{ap, ◌∙◌}
use Rattle.sheet.specs.Commands.{item_of}
use Rattle.model.specs.Drafts.{recorded}
use Rattle.desk.specs.Openings.{unchosen}
use Rattle.desk.proofs.DetectorRun.{opened_none, opened_some}
use Rattle.desk.proofs.opening.open_behind.Goals as goal

pub returns-in_default-clause-told : goal.returns-in_default-clause-told
returns-in_default-clause-told c =
    let d = recorded c.args.sealed.model in
    ap (unchosen d) c.at-stop.ensures ∙ opened_none c.args.sheet.now c.args.sealed.next d c.in_default.ensures.answer

pub returns-clause-told : goal.returns-clause-told
returns-clause-told c =
    let made = c.in_ok-made.ensures in
    c.open_made.ensures.told ∙ opened_some c.args.sheet.now c.args.sealed.next (recorded c.args.sealed.model) (item_of c.in-Some.found) c.in-Some.ensures.answer _ made.model _ made.told
