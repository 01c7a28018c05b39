-- The steps by which a model is written. Each answers whether it is done; one that is refused leaves the model as it was.
use Rattle.std.specs.Prelude.{ℕ, cond, List, [], ◌∷◌, ◌++◌, length, is_some, is_ok, Some, Ok, Err, Result, nat_lt}
use Rattle.std.specs.Result.{result_and}
use Rattle.refusal.specs.declared.Refusal.TheVariants.{TooMany, SizeOutOfRange, EntryTwice, StartIncomplete}
use Rattle.model.specs.declared.row.Row.{Row}
use Rattle.model.specs.declared.moves.Move.{Move}
use Rattle.model.specs.declared.variable.Variable.{Variable}
use Rattle.model.specs.declared.in_hand.Part.{Part}
use Rattle.model.specs.declared.in_hand.Part.TheVariants.{Conditions, Effects}
use Rattle.model.specs.declared.in_hand.End.{End}
use Rattle.model.specs.declared.in_hand.End.TheVariants.{Start, Goal}
use Rattle.model.specs.Rows.{at, with_entry}
use Rattle.model.specs.Limits.{size_fits, complete}
use Rattle.model.specs.Tables.{Answer, begun, begin_answer, with_begun, last_begun, with_last}
use Rattle.model.specs.WrongEntries.{value_checked}
use Rattle.model.specs.Records.{ModelRecord, record_of}

-- the model e where the step is done, and else the model d as it was
abbrev pub if_done : Answer → ModelRecord → ModelRecord → ModelRecord
if_done a e d = cond (is_ok a) e d

-- a variable is named where there are less than 32, and its size is from 1 to 16
abbrev pub variable_answer : ModelRecord → ℕ → Answer
variable_answer d size = cond (nat_lt (length d.variables) 32) (cond (size_fits size) (Ok tt) (Err SizeOutOfRange)) (Err TooMany)

abbrev pub with_variable : ModelRecord → ℕ → List ℕ → ModelRecord
with_variable d size name = record_of (d.variables ++ record { name = name; size = size } ∷ []) d.moves d.start d.goal

abbrev pub name_variable : ModelRecord → ℕ → List ℕ → ModelRecord
name_variable d size name = if_done (variable_answer d size) (with_variable d size name) d

abbrev pub with_moves : ModelRecord → List Move → ModelRecord
with_moves d ms = record_of d.variables ms d.start d.goal

-- a move is begun where there are less than 128
abbrev pub move_answer : ModelRecord → Answer
move_answer d = begin_answer d.moves

abbrev pub with_move : ModelRecord → List ℕ → ModelRecord
with_move d name = with_moves d (d.moves ++ begun name ∷ [])

abbrev pub begin_move : ModelRecord → List ℕ → ModelRecord
begin_move d name = with_moves d (with_begun d.moves name)

-- the value v of the variable i is entered where there is such a variable, v is below its size, and the row leaves it open
abbrev pub entry_answer : List Variable → Row → ℕ → ℕ → Answer
entry_answer vs row i v = result_and (value_checked vs i (Some v)) (cond (is_some (at row i)) (Err EntryTwice) (Ok tt))

-- the row with that entry, or as it was where it is refused
abbrev pub entered : List Variable → Row → ℕ → ℕ → Row
entered vs row i v = cond (is_ok (entry_answer vs row i v)) (with_entry row i (Some v)) row

-- conditions and effects are entered in the move begun last
abbrev pub part_of : Part → Move → Row
part_of Conditions m = m.conditions
part_of Effects m = m.effects

abbrev pub with_part : Part → Move → Row → Move
with_part Conditions m row = record { name = m.name; conditions = row; effects = m.effects }
with_part Effects m row = record { name = m.name; conditions = m.conditions; effects = row }

abbrev pub part_answer : Part → ModelRecord → ℕ → ℕ → Answer
part_answer part d i v = entry_answer d.variables (part_of part (last_begun d.moves)) i v

abbrev pub with_part_entry : Part → ModelRecord → ℕ → ℕ → ModelRecord
with_part_entry part d i v = let m = last_begun d.moves in with_moves d (with_last d.moves (with_part part m (with_entry (part_of part m) i (Some v))))

abbrev pub enter_part : Part → ModelRecord → ℕ → ℕ → ModelRecord
enter_part part d i v = if_done (part_answer part d i v) (with_part_entry part d i v) d

abbrev pub condition_answer : ModelRecord → ℕ → ℕ → Answer
condition_answer = part_answer Conditions

abbrev pub with_condition : ModelRecord → ℕ → ℕ → ModelRecord
with_condition = with_part_entry Conditions

abbrev pub enter_condition : ModelRecord → ℕ → ℕ → ModelRecord
enter_condition = enter_part Conditions

abbrev pub effect_answer : ModelRecord → ℕ → ℕ → Answer
effect_answer = part_answer Effects

abbrev pub with_effect : ModelRecord → ℕ → ℕ → ModelRecord
with_effect = with_part_entry Effects

abbrev pub enter_effect : ModelRecord → ℕ → ℕ → ModelRecord
enter_effect = enter_part Effects

-- the move m with that entry in one of its rows, or as it was where it is refused
abbrev pub move_entered : Part → List Variable → Move → ℕ → ℕ → Move
move_entered part vs m i v = with_part part m (entered vs (part_of part m) i v)

-- entries of the start and of the goal
abbrev pub end_of : End → ModelRecord → Row
end_of Start d = d.start
end_of Goal d = d.goal

abbrev pub with_end : End → ModelRecord → Row → ModelRecord
with_end Start d row = record_of d.variables d.moves row d.goal
with_end Goal d row = record_of d.variables d.moves d.start row

abbrev pub end_answer : End → ModelRecord → ℕ → ℕ → Answer
end_answer end d i v = entry_answer d.variables (end_of end d) i v

abbrev pub with_end_entry : End → ModelRecord → ℕ → ℕ → ModelRecord
with_end_entry end d i v = with_end end d (with_entry (end_of end d) i (Some v))

abbrev pub enter_end : End → ModelRecord → ℕ → ℕ → ModelRecord
enter_end end d i v = if_done (end_answer end d i v) (with_end_entry end d i v) d

abbrev pub start_answer : ModelRecord → ℕ → ℕ → Answer
start_answer = end_answer Start

abbrev pub with_start : ModelRecord → ℕ → ℕ → ModelRecord
with_start = with_end_entry Start

abbrev pub enter_start : ModelRecord → ℕ → ℕ → ModelRecord
enter_start = enter_end Start

abbrev pub goal_answer : ModelRecord → ℕ → ℕ → Answer
goal_answer = end_answer Goal

abbrev pub with_goal : ModelRecord → ℕ → ℕ → ModelRecord
with_goal = with_end_entry Goal

abbrev pub enter_goal : ModelRecord → ℕ → ℕ → ModelRecord
enter_goal = enter_end Goal

-- a model is sealed where its start leaves no variable open
abbrev pub seal_answer : ModelRecord → Answer
seal_answer d = cond (complete d.variables d.start) (Ok tt) (Err StartIncomplete)

abbrev pub sealing : ModelRecord → Result ModelRecord ModelRecord
sealing d = cond (is_ok (seal_answer d)) (Ok d) (Err d)
