use Rattle.desk.specs.Steps.{ending}
use Rattle.desk.proofs.Accepting.{goes_on}
use Rattle.desk.proofs.stage.Stage.enter_end.Goals as goal

pub returns : goal.returns
returns c = cc (goes_on {p = ending} c.in_ok-enter_end.ensures.answer c.enter_end.ensures.after)
