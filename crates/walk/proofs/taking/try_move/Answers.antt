use Rattle.std.proofs.Common.{rules}
use Rattle.first_come.specs.Contents.{contents}
use Rattle.walk.proofs.Steps.{try_none, try_not_applicable, try_applicable}
use Rattle.walk.proofs.taking.try_move.Goals as goal

pub returns-in-Some-clause-made : goal.returns-in-Some-clause-made
returns-in-Some-clause-made g c =
    try_applicable (g.D.Detector.carried c.args.detector.now) (g.D.Detector.dead c.args.detector.now) (contents c.args.list.now) c.args.list.now.fits c.args.at c.args.state.now c.args.number c.in-Some.step.now (search rules) (search rules) _ _ c.reached_by.result c.reached_by.ensures c.arrive.ensures.made

pub returns-in_default-clause-made : goal.returns-in_default-clause-made
returns-in_default-clause-made g c =
    try_not_applicable (g.D.Detector.carried c.args.detector.now) (g.D.Detector.dead c.args.detector.now) (contents c.args.list.now) c.args.list.now.fits c.args.at c.args.state.now c.args.number c.in-Some.step.now (search rules) (search rules)

pub returns-in_default-2-clause-made : goal.returns-in_default-2-clause-made
returns-in_default-2-clause-made g c =
    try_none (g.D.Detector.carried c.args.detector.now) (g.D.Detector.dead c.args.detector.now) (contents c.args.list.now) c.args.list.now.fits c.args.at c.args.state.now c.args.number (search rules)
