-- What a session stands for.
use Rattle.std.specs.Prelude.{Bool, cond, [], vec_items, ◌==◌}
use Rattle.model.specs.declared.row.Row.{Row}
use Rattle.model.specs.Records.{ModelRecord}
use Rattle.sheet.specs.Reading.{Told}
use Rattle.book.specs.Books.{book_rows, book_detector}
use Rattle.book.specs.Probes.{probe_work_list, probe_plan}
use Rattle.book.specs.Written.{buffer_after}
use Rattle.hand.specs.Gathering.{nothing, gathered}
use Rattle.orders.specs.Orders.{answer_told}
use Rattle.session.specs.declared.outcome.Outcome.{Outcome}
use Rattle.session.specs.declared.outcome.Outcome.TheVariants.{Quiet, Answered, Stopped}
use Rattle.session.specs.declared.session.Session.{Session}
use Rattle.session.specs.Turns.{State, state, Lent, lent, Came, quiet, answered, stopped, bytes_told, Turn}

-- a new book, nothing in hand, and an empty list
abbrev pub fresh_state : State
fresh_state = state [] nothing

-- what an outcome tells, where what was lent holds this
abbrev pub came : Lent → Outcome → Came
came l Quiet = quiet
came l (Answered a) = answered (answer_told a) (bytes_told (answer_told a) l)
came l (Stopped why) = stopped why

module _ {D : Type 0} {detecting : _} where
  abbrev pub state_of : Session D detecting → State
  state_of s = state (book_rows s.book) (gathered s.gathered)

  abbrev pub detector_of : Session D detecting → D
  detector_of s = book_detector s.book

  -- what it lends
  abbrev pub lent_of : Session D detecting → Lent
  lent_of s = lent (vec_items s.work_list) (vec_items s.plan) (vec_items s.buffer)

  -- what came of a command, told by the session that it left
  abbrev pub turn : Outcome → Session D detecting → Turn
  turn outcome s = (came (lent_of s) outcome, state_of s)

-- What is lent, behind a command: a probe leaves its walk in the work list and its plan in front of the plan buffer, a write the book in front of the other
-- buffer, and every other command leaves all as it was.
abbrev pub lent_behind : ModelRecord → (Row → Bool) → Lent → State → Told → Lent
lent_behind d dead l s said =
    cond (said.0 == 0x51) (lent (probe_work_list d dead s.rows s.gathered.hand l.work_list) (probe_plan d dead s.rows s.gathered.hand l.work_list l.plan) l.buffer)
    (cond (said.0 == 0x57) (lent l.work_list l.plan (buffer_after l.buffer s.rows)) l)
