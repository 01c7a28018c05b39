use Rattle.std.proofs.Common.{◌∙◌}
use Rattle.std.proofs.lemmas.Result.{IfOk-weaker}
use Rattle.desk.proofs.SheetOpens.{too_long, opens_by, every_detector_decides}
use Rattle.desk.proofs.OpensInOrder.{opens_in_order}
use Rattle.desk.proofs.opening.open_sheet.Goals as goal

pub returns-then-sheet-gt-LONGEST : goal.returns-then-sheet-gt-LONGEST
returns-then-sheet-gt-LONGEST c =
    let outcome = too_long c.args.sheet.now c.if-sheet-gt-LONGEST.true in
    record { outcome = outcome; sealed = tt; in_order = opens_in_order c.args.sheet.now _ outcome; meaning = tt; lawful = tt; decides = tt }

pub returns-in-Ok-clause-outcome : goal.returns-in-Ok-clause-outcome
returns-in-Ok-clause-outcome c =
    IfOk-weaker c.open_behind.result _ _ (λ o told. told ∙ opens_by c.args.sheet.now c.if-sheet-gt-LONGEST.false _ (rw c.in_ok-new.ensures at c.in-Ok.ensures)) c.open_behind.ensures.told

pub returns-in-Ok-clause-in_order : goal.returns-in-Ok-clause-in_order
returns-in-Ok-clause-in_order c = IfOk-weaker c.open_behind.result _ _ (λ o outcome. opens_in_order c.args.sheet.now _ outcome) (returns-in-Ok-clause-outcome c)

pub returns-in-Ok-clause-decides : goal.returns-in-Ok-clause-decides
returns-in-Ok-clause-decides c = IfOk-weaker c.open_behind.result _ _ (λ o _. every_detector_decides o) c.open_behind.ensures.meaning

pub returns-in-Err : goal.returns-in-Err
returns-in-Err c =
    let sheet = c.args.sheet.now in
    let outcome = opens_by sheet c.if-sheet-gt-LONGEST.false _ (rw c.in_ok-new.ensures at c.in-Err.ensures) in
    record { outcome = outcome; sealed = tt; in_order = opens_in_order c.args.sheet.now _ outcome; meaning = tt; lawful = tt; decides = tt }
