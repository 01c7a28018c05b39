-- The book as it is written, read again.
use Rattle.std.specs.Prelude.{◌≡◌, List, Some}
use Rattle.model.specs.declared.row.Row.{Row}
use Rattle.model.specs.Records.{ModelRecord}
use Rattle.sheet.specs.Commands.{commands}
use Rattle.book.specs.Written.{rows_written}
use Rattle.hand.specs.Gathering.{nothing}
use Rattle.hand.specs.ReadBack.{offered}

-- what is written of a book with these rows offers just these rows, if it is read with nothing in hand and an empty list
abbrev pub WrittenBookReadsBack : ModelRecord → List Row → Type 0
WrittenBookReadsBack d rows = offered d.variables nothing (commands (rows_written rows)) ≡ Some rows
