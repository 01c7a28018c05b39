use Rattle.desk.specs.Steps.{writing}
use Rattle.desk.proofs.Accepting.{goes_on}
use Rattle.desk.proofs.stage.Stage.enter_part.Goals as goal

pub returns-in-Moves : goal.returns-in-Moves
returns-in-Moves c = rw c.in-Moves.is (cc (goes_on {p = writing} c.in_ok-enter_part-in-Moves.ensures.answer c.enter_part.ensures.after))
