-- What each command behind the detector comes to, over a detector that carries the model d and calls the rows of `dead` dead.
use Rattle.std.specs.Prelude.{ℕ, Bool, true, false, cond, List, [], ◌∷◌, ◌++◌, Some, None, Option, Ok, Err, take, replicate, unwrap_or, option_map, option_to_list, ◌==◌, slice_index}
use Rattle.refusal.specs.declared.Refusal.{Refusal}
use Rattle.refusal.specs.declared.Refusal.TheVariants.{SheetEnds, UnknownCommand, OutOfTurn}
use Rattle.model.specs.declared.row.Row.{Row}
use Rattle.model.specs.declared.variable.Variable.{Variable}
use Rattle.model.specs.Records.{ModelRecord}
use Rattle.model.specs.Rows.{open_row}
use Rattle.model.specs.Tables.{Answer}
use Rattle.sheet.specs.Reading.{Told}
use Rattle.sheet.specs.Commands.{Item}
use Rattle.walk.specs.declared.walked.Walked.{Walked}
use Rattle.walk.specs.Walks.{first}
use Rattle.hand.specs.Gathering.{Gathering, nothing, enter_answer, after_entry, next_answer, after_next, without_row, without_list}
use Rattle.hand.specs.ReadBack.{told_gathers}
use Rattle.orders.specs.Orders as orders
use Rattle.orders.specs.Orders.{Brought, judge, probe, offer, settle, write, judged, called_dead, has_plan, offered, settled, wrote, refused}
use Rattle.orders.specs.Runs.{answer, rows_after, left_of}

-- the rows of the book, and the row in hand with the list
pub record State : Type 0 where
  pub rows : List Row
  pub gathered : Gathering

abbrev pub state : List Row → Gathering → State
state rows gathered = record { rows = rows; gathered = gathered }

-- what is lent to orders: a work list, a buffer for a plan, and one for the book as it is written
pub record Lent : Type 0 where
  pub work_list : List Walked
  pub plan : List ℕ
  pub buffer : List ℕ

abbrev pub lent : List Walked → List ℕ → List ℕ → Lent
lent work_list plan buffer = record { work_list = work_list; plan = plan; buffer = buffer }

-- 256 places, and zeros: 256 bytes for a plan and 32,768 for the book
unfoldable pub fresh_lent : Lent
fresh_lent = lent (replicate 256 (first open_row)) (replicate 256 0) (replicate 32768 0)

-- what comes of a command
pub data Came : Type 0 where
  -- nothing is told
  quiet : Came
  -- an order is answered, and the run goes on; with the moves of a plan, or the bytes of the book as it is written
  answered : orders.AnswerTold → List ℕ → Came
  -- the command is refused, and the run ends
  stopped : Refusal → Came

abbrev pub stops : Came → Bool
stops quiet = false
stops (answered a bytes) = false
stops (stopped why) = true

-- what comes of it, and the state that it leaves
abbrev pub Turn : Type 0
Turn = Came × State

-- what follows a turn, unless the run ends with it
abbrev pub unless_stopped : {A : Type 0} → Turn → List A → List A
unless_stopped turn next = cond (stops turn.0) [] next

-- a step that gathers rows: done, or refused, which leaves all as it was
abbrev pub gathers : Answer → State → Gathering → Turn
gathers (Ok done) s g = (quiet, state s.rows g)
gathers (Err why) s g = (stopped why, s)

-- an entry is entered in the row in hand
abbrev pub entry_turn : ModelRecord → State → ℕ → ℕ → Turn
entry_turn d s i v = gathers (enter_answer d.variables s.gathered i v) s (after_entry d.variables s.gathered i v)

-- the row in hand joins the list
abbrev pub next_turn : State → Turn
next_turn s = gathers (next_answer s.gathered) s (after_next s.gathered)

-- the order that a command gives, if it gives one, of the row in hand or the list, with what is lent to it
abbrev pub order_given : Lent → Gathering → Told → Option Brought
order_given l g said =
    cond (said.0 == 0x4a) (Some (judge g.hand))
    (cond (said.0 == 0x51) (Some (probe g.hand l.work_list l.plan))
    (cond (said.0 == 0x4f) (Some (offer g.list))
    (cond (said.0 == 0x54) (Some (settle g.list))
    (cond (said.0 == 0x57) (Some (write l.buffer))
    None))))

-- the row in hand or the list that an order took is dropped then, refused or not
abbrev pub after_order : Brought → Gathering → Gathering
after_order (judge r) g = without_row g
after_order (probe r work_list plan) g = without_row g
after_order (offer list) g = without_list g
after_order (settle list) g = without_list g
after_order (write buffer) g = g

-- the hand and the list behind a command that gives this order, or none; none where the run ends with the command: an entry or a next command is refused,
-- or the command does not stand here
abbrev pub gathered_behind : List Variable → Gathering → Told → Option Brought → Option Gathering
gathered_behind vs g said (Some o) = Some (after_order o g)
gathered_behind vs g said None = told_gathers vs g said

-- All orders that commands give, until the run ends; each is lent fresh buffers. They depend on the variables, the hand and the list alone, and not on any
-- answer.
abbrev pub orders_from : List Variable → Option Gathering → List Item → List Brought
orders_from vs None is = []
orders_from vs (Some g) [] = []
orders_from vs (Some g) (i ∷ is) = let o = order_given fresh_lent g i.said in option_to_list o ++ orders_from vs (gathered_behind vs g i.said o) is

unfoldable pub orders_given : List Variable → List Item → List Brought
orders_given vs is = orders_from vs (Some nothing) is

-- whether the run comes to the end of the commands
abbrev pub comes_to_the_end : List Variable → Option Gathering → List Item → Bool
comes_to_the_end vs None is = false
comes_to_the_end vs (Some g) [] = true
comes_to_the_end vs (Some g) (i ∷ is) = comes_to_the_end vs (gathered_behind vs g i.said (order_given fresh_lent g i.said)) is

-- the bytes that belong to an answer: the moves in front of the buffer for a plan, or the book in front of the other one
abbrev pub bytes_told : orders.AnswerTold → Lent → List ℕ
bytes_told (judged is_dead) l = []
bytes_told (called_dead states rows entries) l = []
bytes_told (has_plan states n) l = take n l.plan
bytes_told (offered added) l = []
bytes_told (settled added rounds) l = []
bytes_told (wrote n) l = take n l.buffer
bytes_told (refused number row step) l = []

-- what was lent to an order
abbrev pub lent_to : Brought → Lent
lent_to (judge r) = lent [] [] []
lent_to (probe r work_list plan) = lent work_list plan []
lent_to (offer list) = lent [] [] []
lent_to (settle list) = lent [] [] []
lent_to (write buffer) = lent [] [] buffer

module _ (d : ModelRecord) (dead : Row → Bool) where
  -- an order comes to the answer of the book, with the bytes that it left in what was lent to it
  abbrev pub order_turn : State → Brought → Turn
  order_turn s o = (answered (answer d dead s.rows o) (bytes_told (answer d dead s.rows o) (lent_to (left_of d dead s.rows o))), state (rows_after d dead s.rows o) (after_order o s.gathered))

  -- a command that gives no order, or a fault; the commands of the model and of the detector do not stand here
  abbrev pub other_turn : State → Told → Turn
  other_turn s said =
      cond {A = Turn} (said.0 == 2) (stopped UnknownCommand, s)
      (cond {A = Turn} (said.0 == 1) (stopped SheetEnds, s)
      (cond {A = Turn} (said.0 == 0x52) (entry_turn d s (slice_index said.1 0) (slice_index said.1 1))
      (cond {A = Turn} (said.0 == 0x4e) (next_turn s)
      (stopped OutOfTurn, s))))

  -- one command, with what is lent to its order
  abbrev pub command_turn : Lent → State → Told → Turn
  command_turn l s said = unwrap_or (option_map (order_turn s) (order_given l s.gathered said)) (other_turn s said)
