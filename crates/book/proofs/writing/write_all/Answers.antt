use Rattle.std.proofs.Common.{arith}
use Rattle.lists.proofs.Laying.{one_more}
use Rattle.book.proofs.RowBytes.{row_more}
use Rattle.book.proofs.writing.write_all.Goals as goal

pub loop-row-preserved : goal.loop-row-preserved
loop-row-preserved c =
    one_more c.loop-row.invariant _ _ (row_more c.args.rows.now c.loop-row.row-index c.row-item.result (omega arith) c.row-item.is) c.write_row-place.ensures.bytes c.write_row-place.ensures.next
