-- The row in hand and the list. A step that is refused leaves both as they were.
use Rattle.std.specs.Prelude.{ℕ, cond, List, [], ◌∷◌, ◌++◌, length, is_ok, Ok, Err, vec_items, nat_lt}
use Rattle.refusal.specs.declared.Refusal.TheVariants.{TooMany}
use Rattle.model.specs.declared.row.Row.{Row}
use Rattle.model.specs.declared.variable.Variable.{Variable}
use Rattle.model.specs.Rows.{open_row}
use Rattle.model.specs.Tables.{Answer}
use Rattle.model.specs.Writing.{entry_answer, entered}
use Rattle.hand.specs.declared.hand.Gathered.{Gathered}

-- what is gathered: the row in hand, and the rows of the list
pub record Gathering : Type 0 where
  pub hand : Row
  pub list : List Row

abbrev pub gathering : Row → List Row → Gathering
gathering hand list = record { hand = hand; list = list }

-- nothing in hand, and an empty list
abbrev pub nothing : Gathering
nothing = gathering open_row []

abbrev pub gathered : Gathered → Gathering
gathered g = gathering g.row (vec_items g.list)

-- the value v of the variable i is entered in the row in hand as it is in a model's rows
abbrev pub enter_answer : List Variable → Gathering → ℕ → ℕ → Answer
enter_answer vs g i v = entry_answer vs g.hand i v

abbrev pub after_entry : List Variable → Gathering → ℕ → ℕ → Gathering
after_entry vs g i v = gathering (entered vs g.hand i v) g.list

-- the row in hand joins the list where that has less than 256 rows, and the hand is open again
abbrev pub next_answer : Gathering → Answer
next_answer g = cond (nat_lt (length g.list) 256) (Ok tt) (Err TooMany)

abbrev pub after_next : Gathering → Gathering
after_next g = cond (is_ok (next_answer g)) (gathering open_row (g.list ++ g.hand ∷ [])) g

-- one of the two is dropped, and the other is kept
abbrev pub without_row : Gathering → Gathering
without_row g = gathering open_row g.list

abbrev pub without_list : Gathering → Gathering
without_list g = gathering g.hand []
