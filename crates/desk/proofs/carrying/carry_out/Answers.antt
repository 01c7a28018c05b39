use Rattle.std.proofs.Common.{refl}
use Rattle.std.proofs.lemmas.Result.{on_ok_weaker}
use Rattle.session.specs.Sessions.{detector_of, state_of}
use Rattle.detectors.specs.Shipping.{shipped_model}
use Rattle.desk.specs.Lines.{model_line}
use Rattle.desk.proofs.PromiseRun.{promise_kept}
use Rattle.desk.proofs.SheetRun.{sheet_printed}
use Rattle.desk.proofs.carrying.carry_out.Goals as goal

pub returns-in_ok-session-in-Orders-clause-printed :
    goal.returns-in_ok-session-in-Orders-clause-printed
returns-in_ok-session-in-Orders-clause-printed g c =
    let opens = rw c.in-Orders.is at c.in_ok-stop.ensures.outcome in
    let means = rw c.in-Orders.is at c.in_ok-stop.ensures.meaning in
    let session = c.in_ok-session-in-Orders in
    on_ok_weaker c.carry_out_orders.result
    (λ wrote. sheet_printed c.args.sheet.now c.in-Orders.detector c.in-Orders.orders opens means (detector_of session.session) session.ensures.over (state_of session.session) session.ensures.fresh (model_line (shipped_model c.in-Orders.detector)) refl _ _ _ c.in_ok-write_carried-in-Orders.ensures wrote)
    c.carry_out_orders.ensures

pub returns-in_ok-session-in-Orders-clause-promise : goal.returns-in_ok-session-in-Orders-clause-promise
returns-in_ok-session-in-Orders-clause-promise g c =
    let kept = promise_kept c.args.sheet.now c.in_ok-stop.field-0 c.in_ok-stop.ensures.outcome c.in_ok-stop.ensures.meaning in
    on_ok_weaker c.carry_out_orders.result (λ _. kept) c.carry_out_orders.ensures
