use Rattle.std.proofs.Common.{ap, sym, ◌∙◌, length, arith}
use Rattle.std.proofs.Math.Seq.{sets}
use Rattle.lists.proofs.Laying.{one_more, room}
use Rattle.book.proofs.RowBytes.{entry_more, entries_ended}
use Rattle.book.proofs.writing.write_row.Goals as goal

pub write_entry-place-requires : goal.write_entry-place-requires
write_entry-place-requires c =
    room c.loop-variable.invariant _ _ (entry_more c.args.row.now c.loop-variable.variable c.entry.result (omega arith) (cc)) c.requires

pub loop-variable-preserved : goal.loop-variable-preserved
loop-variable-preserved c =
    one_more c.loop-variable.invariant _ _ (entry_more c.args.row.now c.loop-variable.variable c.entry.result (omega arith) (cc)) c.write_entry-place.ensures.bytes c.write_entry-place.ensures.next

pub returns-clause-next : goal.returns-clause-next
returns-clause-next c =
    let ended = ap length (entries_ended c.args.row.now c.loop-variable.variable (omega arith)) in
    omega (arith, ended, c.loop-variable.invariant.end)

pub returns-clause-bytes : goal.returns-clause-bytes
returns-clause-bytes c =
    ap (sets c.loop-variable.buffer c.loop-variable.place) (sym (entries_ended c.args.row.now c.loop-variable.variable (omega arith))) ∙ c.loop-variable.invariant.same
