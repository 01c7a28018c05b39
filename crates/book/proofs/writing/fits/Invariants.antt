use Rattle.std.proofs.Common.{◌≡◌, ◌+◌, length}
use Rattle.book.specs.Written.{rows_written}
use Rattle.book.proofs.RowBytes.{rows_rest}
use Rattle.book.proofs.writing.fits.Given as goal

-- the room that is left is for the rows that are left
abbrev pub invariant-loop-row : goal.invariant-loop-row
invariant-loop-row l = l.room + length (rows_rest l.rows l.row-index) ≡ l.left + length (rows_written l.rows)
