-- What is printed of a sheet, by its bytes.
use Rattle.std.specs.Prelude.{ℕ, Bool, List, [], ◌∷◌, ◌++◌, length}
use Rattle.model.specs.declared.row.Row.{Row}
use Rattle.model.specs.Records.{ModelRecord}
use Rattle.sheet.specs.Commands.{Item, commands_from}
use Rattle.detectors.specs.Shipping.{told_dead}
use Rattle.orders.specs.Orders.{AnswerTold, judged, called_dead, has_plan, offered, settled, wrote, refused as turned_down}
use Rattle.session.specs.Turns.{State, fresh_lent, Came, quiet, answered, stopped, command_turn, unless_stopped}
use Rattle.session.specs.Sessions.{fresh_state}
use Rattle.desk.specs.Lines.{Said, judge, probe_dead, probe_plan, offer, settle, write, refused, end, model_line, stop_line}
use Rattle.desk.specs.ModelPart.{stop_at}
use Rattle.desk.specs.Openings.{Opened, unsealed, unchosen, orders, opening}

-- the line of an answer, with the bytes that belong to it: the moves of a plan, or the book as it is written
abbrev pub answer_line : AnswerTold → List ℕ → Said
answer_line (judged is_dead) bytes = judge is_dead
answer_line (called_dead states rows entries) bytes = probe_dead states rows entries
answer_line (has_plan states length) bytes = probe_plan states length bytes
answer_line (offered added) bytes = offer added
answer_line (settled added rounds) bytes = settle added rounds
answer_line (wrote length) bytes = write bytes
answer_line (turned_down number row step) bytes = refused number row step

-- the line that tells what came of a command at a place of a sheet of `size` bytes, if one is told
abbrev pub line_of : ℕ → ℕ → Came → List Said
line_of size place quiet = []
line_of size place (answered a bytes) = answer_line a bytes ∷ []
line_of size place (stopped why) = stop_line (stop_at size place why) ∷ []

-- The lines that are told of the commands behind the detector, which carries the model d and calls the rows of `dead` dead; `end` behind the last, unless
-- the run has stopped. Each leaves a state to the next.
unfoldable pub order_lines : ModelRecord → (Row → Bool) → ℕ → State → List Item → List Said
order_lines d dead size s [] = end ∷ []
order_lines d dead size s (i ∷ is) = let turn = command_turn d dead fresh_lent s i.said in line_of size i.place turn.0 ++ unless_stopped turn (order_lines d dead size turn.1 is)

-- the lines of a sheet that opens so
abbrev pub opened_lines : List ℕ → Opened → List Said
opened_lines sheet (unsealed stop) = stop_line stop ∷ []
opened_lines sheet (unchosen d stop) = model_line d ∷ stop_line stop ∷ []
opened_lines sheet (orders d detector place) = model_line d ∷ order_lines d (told_dead d detector) (length sheet) fresh_state (commands_from sheet place)

-- the lines of a sheet
abbrev pub lines_of : List ℕ → List Said
lines_of sheet = opened_lines sheet (opening sheet)
