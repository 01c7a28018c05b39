use Rattle.std.proofs.Common.{◌+◌, ◌∙◌, arith}
use Rattle.first_come.specs.Contents.{contents}
use Rattle.walk.specs.declared.course.Course.TheVariants.{Underway}
use Rattle.walk.proofs.Steps.{tried_next, tried_ended, tried_all}
use Rattle.walk.proofs.taking.try_moves.Goals as goal

pub returns-in_default-clause-made : goal.returns-in_default-clause-made
returns-in_default-clause-made g c =
    let d = g.D.Detector.carried c.args.detector.now in
    let dead = g.D.Detector.dead c.args.detector.now in
    let lent = contents c.args.list.now in
    let after = contents c.try_move.new.list in
    let next = tried_next d dead lent c.args.list.now.fits c.args.at c.args.state.now c.loop-number.number (contents c.loop-number.list) after c.try_move.result c.loop-number.invariant.made c.try_move.ensures.made in
    tried_ended d dead lent c.args.list.now.fits c.args.at c.args.state.now (c.loop-number.number + 1) c.move_count-number-end.result after c.try_move.result (omega arith) c.move_count-number-end.ensures c.in_default.not-Underway next

pub loop-number-preserved : goal.loop-number-preserved
loop-number-preserved g c = record {
  made = tried_next (g.D.Detector.carried c.args.detector.now) (g.D.Detector.dead c.args.detector.now) (contents c.args.list.now) c.args.list.now.fits c.args.at c.args.state.now c.loop-number.number (contents c.loop-number.list) (contents c.try_move.new.list) Underway c.loop-number.invariant.made c.in-Underway.ensures.made;
  lender = c.try_move.ensures.lender ∙ c.loop-number.invariant.lender;
}

pub returns-clause-made : goal.returns-clause-made
returns-clause-made g c =
    tried_all (g.D.Detector.carried c.args.detector.now) (g.D.Detector.dead c.args.detector.now) (contents c.args.list.now) c.args.list.now.fits c.args.at c.args.state.now c.loop-number.number (contents c.loop-number.list) (omega arith) c.loop-number.invariant.made
