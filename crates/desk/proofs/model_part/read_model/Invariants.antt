use Rattle.std.proofs.Common.{◌≡◌, ◌-◌, length}
use Rattle.sheet.specs.Commands.{commands_from}
use Rattle.desk.specs.Stages.{phase_of, record_so_far}
use Rattle.desk.specs.ModelPart.{model_part}
use Rattle.desk.proofs.model_part.read_model.Given as goal

-- what is left of the sheet, from the model so far, comes to the same as the whole
abbrev pub invariant-loop-found : goal.invariant-loop-found
invariant-loop-found l = model_part (length l.sheet) (phase_of l.stage) (record_so_far l.stage) (commands_from l.sheet l.place) ≡ model_part (length l.sheet) (phase_of l.fn.stage) (record_so_far l.fn.stage) (commands_from l.sheet 0)

abbrev pub decreases-loop-found : goal.decreases-loop-found
decreases-loop-found l = length l.sheet - l.place
