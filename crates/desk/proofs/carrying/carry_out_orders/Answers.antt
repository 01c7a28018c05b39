use Rattle.std.proofs.Common.{◌∙◌, sym, arith}
use Rattle.std.proofs.lemmas.Result.{on_ok_weaker}
use Rattle.sheet.specs.Commands.{item_of}
use Rattle.session.specs.Sessions.{came, detector_of, lent_of, state_of}
use Rattle.desk.proofs.OrderRun.{none_left, ends, goes_on, moves_on, printed_all, printed_more}
use Rattle.desk.proofs.carrying.carry_out_orders.Goals as goal

pub returns-then-stops : goal.returns-then-stops
returns-then-stops g c =
    let before = c.loop-found.session in
    let after = c.obey-outcome.new.self in
    let last = ends c.args.sheet.now c.loop-found.place (state_of before) (item_of c.in-Some.found) c.in-Some.ensures.answer g.D.Detector.carried g.D.Detector.dead (detector_of c.args.session.now) (detector_of before) c.loop-found.invariant.over (came (lent_of after) c.obey-outcome.result) (state_of after) c.obey-outcome.ensures.outcome (sym (c.stops.ensures (lent_of after)) ∙ c.if-stops.true) in
    printed_all _ _ _ _ _ _ c.loop-found.invariant.printing c.in_ok-write_outcome.ensures last

pub loop-found-smaller : goal.loop-found-smaller
loop-found-smaller g c =
    let before = c.loop-found.session in
    let after = c.obey-outcome.new.self in
    let further = moves_on c.args.sheet.now c.loop-found.place (state_of before) (item_of c.in-Some.found) c.in-Some.ensures.answer g.D.Detector.carried g.D.Detector.dead (detector_of c.args.session.now) (detector_of before) c.loop-found.invariant.over (came (lent_of after) c.obey-outcome.result) (state_of after) c.obey-outcome.ensures.outcome (sym (c.stops.ensures (lent_of after)) ∙ c.if-stops.false) in
    omega (arith, further.0, further.1)

pub loop-found-preserved : goal.loop-found-preserved
loop-found-preserved g c =
    let before = c.loop-found.session in
    let after = c.obey-outcome.new.self in
    let further = goes_on c.args.sheet.now c.loop-found.place (state_of before) (item_of c.in-Some.found) c.in-Some.ensures.answer g.D.Detector.carried g.D.Detector.dead (detector_of c.args.session.now) (detector_of before) c.loop-found.invariant.over (came (lent_of after) c.obey-outcome.result) (state_of after) c.obey-outcome.ensures.outcome (sym (c.stops.ensures (lent_of after)) ∙ c.if-stops.false) in
    record {
      printing = printed_more _ _ _ _ _ _ c.loop-found.invariant.printing c.in_ok-write_outcome.ensures _ further;
      over = c.obey-outcome.ensures.over ∙ c.loop-found.invariant.over;
    }

pub returns : goal.returns
returns g c =
    let session = c.args.session.now in
    let last = none_left c.args.sheet.now c.loop-found.place (state_of c.loop-found.session) (g.D.Detector.carried (detector_of session)) (g.D.Detector.dead (detector_of session)) c.in_default.ensures.answer in
    on_ok_weaker c.write_line.result (λ wrote. printed_all _ _ _ _ _ _ c.loop-found.invariant.printing wrote last) c.write_line.ensures
