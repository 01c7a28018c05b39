-- Rows that are added to a book.
use Rattle.std.specs.Prelude.{◌+◌, Bool, cond, List, [], ◌∷◌, ◌++◌, length, Ok, Err, nat_lt}
use Rattle.refusal.specs.declared.Refusal.TheVariants.{BookFull}
use Rattle.model.specs.declared.row.Row.{Row}
use Rattle.model.specs.Rows.{same_row}
use Rattle.first_come.specs.Arrivals.{has}
use Rattle.book.specs.Refusals.{Checked, refused}

-- the rows of the list that are not yet held, in list order, each once
unfoldable pub fresh : List Row → List Row → List Row
fresh rows [] = []
fresh rows (r ∷ rs) = cond (has same_row rows r) (fresh rows rs) (r ∷ fresh (rows ++ r ∷ []) rs)

-- the book's rows with the fresh ones would be more than 256
abbrev pub overfull : List Row → List Row → Bool
overfull rows list = nat_lt 256 (length rows + length (fresh rows list))

-- 14, the book is full: whether its rows with the fresh ones are at most 256
abbrev pub room_checked : List Row → List Row → Checked
room_checked rows list = cond (overfull rows list) (Err (refused BookFull)) (Ok tt)
