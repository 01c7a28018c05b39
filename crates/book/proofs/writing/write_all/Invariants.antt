use Rattle.book.specs.Written.{rows_written}
use Rattle.lists.proofs.Laying.{Laid}
use Rattle.book.proofs.RowBytes.{rows_rest}
use Rattle.book.proofs.writing.write_all.Given as goal

abbrev pub invariant-loop-row : goal.invariant-loop-row
invariant-loop-row l = Laid l.fn.buffer 0 (rows_written l.rows) l.buffer l.place (rows_rest l.rows l.row-index)
