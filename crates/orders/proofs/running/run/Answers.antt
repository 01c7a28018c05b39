use Rattle.orders.proofs.RunSteps.{run_keeps_the_promise}
use Rattle.orders.proofs.running.run.Goals as goal

pub returns-clause-promise : goal.returns-clause-promise
returns-clause-promise g c =
    run_keeps_the_promise (g.D.Detector.carried c.args.detector) (g.D.Detector.dead c.args.detector) (g.met.D.Detector.sealed c.args.detector) c.args.orders.now c.run_all.new.orders c.run_all.result c.run_all.ensures.answers c.run_all.ensures.left
