use Rattle.std.proofs.Common.{rules}
use Rattle.desk.proofs.stage.Stage.take.Goals as goal

pub returns-in-Start : goal.returns-in-Start
returns-in-Start c = rw c.in-Start.is (search rules)

pub returns-in-Goal : goal.returns-in-Goal
returns-in-Goal c = rw c.in-Goal.is (search rules)
