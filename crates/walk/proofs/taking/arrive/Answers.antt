use Rattle.std.proofs.Common.{rules}
use Rattle.first_come.specs.Contents.{contents}
use Rattle.walk.proofs.Steps.{arrive_at_goal, arrive_passed_over, arrive_full, arrive_added}
use Rattle.walk.proofs.taking.arrive.Goals as goal

pub returns-then-meets_goal-clause-made : goal.returns-then-meets_goal-clause-made
returns-then-meets_goal-clause-made g c =
    arrive_at_goal (g.D.Detector.carried c.args.detector.now) (g.D.Detector.dead c.args.detector.now) (contents c.args.list.now) c.args.list.now.fits c.args.reached (search rules)

pub returns-then-is_passed_over-clause-made : goal.returns-then-is_passed_over-clause-made
returns-then-is_passed_over-clause-made g c =
    arrive_passed_over (g.D.Detector.carried c.args.detector.now) (g.D.Detector.dead c.args.detector.now) (contents c.args.list.now) c.args.list.now.fits c.args.reached (search rules) (search rules)

pub returns-in-Full-clause-made : goal.returns-in-Full-clause-made
returns-in-Full-clause-made g c =
    arrive_full (g.D.Detector.carried c.args.detector.now) (g.D.Detector.dead c.args.detector.now) (contents c.args.list.now) c.args.list.now.fits c.args.reached (search rules) (search rules) _ c.list.ensures.kept c.in-Full.ensures.answered

pub returns-clause-made : goal.returns-clause-made
returns-clause-made g c =
    arrive_added (g.D.Detector.carried c.args.detector.now) (g.D.Detector.dead c.args.detector.now) (contents c.args.list.now) c.args.list.now.fits c.args.reached (search rules) (search rules) _ c.list.ensures.kept c.list.result c.list.ensures.answered c.in_default.not-Full
