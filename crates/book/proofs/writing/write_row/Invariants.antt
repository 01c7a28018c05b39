use Rattle.book.specs.Written.{row_written}
use Rattle.lists.proofs.Laying.{Laid}
use Rattle.book.proofs.RowBytes.{row_rest}
use Rattle.book.proofs.writing.write_row.Given as goal

abbrev pub invariant-loop-variable : goal.invariant-loop-variable
invariant-loop-variable l = Laid l.fn.buffer l.start (row_written l.row) l.buffer l.place (row_rest l.row l.variable)
