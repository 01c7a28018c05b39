-- What each command makes of a model in hand.
use Rattle.std.specs.Prelude.{ℕ, cond, List, drop, is_ok, Ok, Err, ◌==◌, slice_index}
use Rattle.refusal.specs.declared.Refusal.{Refusal}
use Rattle.refusal.specs.declared.Refusal.TheVariants.{SheetEnds, UnknownCommand, OutOfTurn, StartIncomplete}
use Rattle.sheet.specs.Reading.{Told}
use Rattle.model.specs.Records.{ModelRecord}
use Rattle.model.specs.Tables.{Answer}
use Rattle.model.specs.declared.in_hand.Part.{Part}
use Rattle.model.specs.declared.in_hand.Part.TheVariants.{Conditions, Effects}
use Rattle.model.specs.declared.in_hand.End.{End}
use Rattle.model.specs.declared.in_hand.End.TheVariants.{Start, Goal}
use Rattle.model.specs.Writing.{variable_answer, name_variable, move_answer, begin_move, part_answer, enter_part, end_answer, enter_end, seal_answer}

-- what the model in hand takes next: variables; moves with their conditions and effects; or its start and goal
pub data Phase : Type 0 where
  naming : Phase
  writing : Phase
  ending : Phase

-- the model goes on, in a phase; or it is sealed; or the command is refused
pub data Turned : Type 0 where
  goes : Phase → ModelRecord → Turned
  seals : ModelRecord → Turned
  refuses : Refusal → Turned

-- a step of writing the model, which is then the model e in the phase p unless the step is refused
abbrev pub answered : Answer → Phase → ModelRecord → Turned
answered (Ok done) p e = goes p e
answered (Err r) p e = refuses r

-- variables stand first
abbrev pub variable_step : Phase → ModelRecord → ℕ → List ℕ → Turned
variable_step naming d size name = answered (variable_answer d size) naming (name_variable d size name)
variable_step writing d size name = refuses OutOfTurn
variable_step ending d size name = refuses OutOfTurn

-- moves come next
abbrev pub move_step : Phase → ModelRecord → List ℕ → Turned
move_step naming d name = answered (move_answer d) writing (begin_move d name)
move_step writing d name = answered (move_answer d) writing (begin_move d name)
move_step ending d name = refuses OutOfTurn

-- each with its conditions and effects
abbrev pub part_step : Part → Phase → ModelRecord → ℕ → ℕ → Turned
part_step part naming d i v = refuses OutOfTurn
part_step part writing d i v = answered (part_answer part d i v) writing (enter_part part d i v)
part_step part ending d i v = refuses OutOfTurn

abbrev pub condition_step : Phase → ModelRecord → ℕ → ℕ → Turned
condition_step = part_step Conditions

abbrev pub effect_step : Phase → ModelRecord → ℕ → ℕ → Turned
effect_step = part_step Effects

-- start and goal stand mixed after them
abbrev pub end_step : End → ModelRecord → ℕ → ℕ → Turned
end_step end d i v = answered (end_answer end d i v) ending (enter_end end d i v)

abbrev pub start_step : ModelRecord → ℕ → ℕ → Turned
start_step = end_step Start

abbrev pub goal_step : ModelRecord → ℕ → ℕ → Turned
goal_step = end_step Goal

-- then the model is sealed
abbrev pub seal_step : ModelRecord → Turned
seal_step d = cond (is_ok (seal_answer d)) (seals d) (refuses StartIncomplete)

-- one command, or a fault, of the model part
abbrev pub step : Phase → ModelRecord → Told → Turned
step p d said =
    cond (said.0 == 2) (refuses UnknownCommand)
    (cond (said.0 == 1) (refuses SheetEnds)
    (cond (said.0 == 0x56) (variable_step p d (slice_index said.1 0) (drop 1 said.1))
    (cond (said.0 == 0x41) (move_step p d said.1)
    (cond (said.0 == 0x50) (condition_step p d (slice_index said.1 0) (slice_index said.1 1))
    (cond (said.0 == 0x45) (effect_step p d (slice_index said.1 0) (slice_index said.1 1))
    (cond (said.0 == 0x53) (start_step d (slice_index said.1 0) (slice_index said.1 1))
    (cond (said.0 == 0x47) (goal_step d (slice_index said.1 0) (slice_index said.1 1))
    (cond (said.0 == 0x5a) (seal_step d)
    (refuses OutOfTurn)))))))))
