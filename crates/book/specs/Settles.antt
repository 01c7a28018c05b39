-- What a settle answers, and the rows that it leaves. Its rounds are those of the crate settling, by what the book calls dead.
use Rattle.std.specs.Prelude.{ℕ, Bool, cond, List, ◌++◌, length, is_ok, Ok, Result}
use Rattle.std.specs.Result.{result_and}
use Rattle.model.specs.declared.row.Row.{Row}
use Rattle.model.specs.Records.{ModelRecord}
use Rattle.book.specs.declared.refused.Refused.{Refused}
use Rattle.book.specs.declared.settled.Settled.{Settled}
use Rattle.settling.specs.Rounds.{left_of, rounds_for}
use Rattle.book.specs.Refusals.{Checked}
use Rattle.book.specs.Adding.{fresh, room_checked}
use Rattle.book.specs.Offers.{list_checked}
use Rattle.book.specs.Verdicts.{book_dead}

-- the candidates that are left unmarked in the end, where the book has these rows
unfoldable pub left_unmarked : ModelRecord → (Row → Bool) → List Row → List Row → List Row
left_unmarked d dead rows list = left_of d (book_dead d dead rows) list

-- and how many rounds that takes
unfoldable pub rounds : ModelRecord → (Row → Bool) → List Row → List Row → ℕ
rounds d dead rows list = rounds_for d (book_dead d dead rows) list

unfoldable pub settle_checked : ModelRecord → (Row → Bool) → List Row → List Row → Checked
settle_checked d dead rows list = result_and (list_checked d.variables list) (room_checked rows (left_unmarked d dead rows list))

abbrev pub settle_answer : ModelRecord → (Row → Bool) → List Row → List Row → Result Settled Refused
settle_answer d dead rows list = result_and (settle_checked d dead rows list) (Ok (record { added = length (fresh rows (left_unmarked d dead rows list)); rounds = rounds d dead rows list }))

-- the rows of the book afterwards; a refusal leaves them as they were
abbrev pub settle_rows : ModelRecord → (Row → Bool) → List Row → List Row → List Row
settle_rows d dead rows list = cond (is_ok (settle_checked d dead rows list)) (rows ++ fresh rows (left_unmarked d dead rows list)) rows
