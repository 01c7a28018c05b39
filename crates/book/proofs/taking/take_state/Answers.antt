use Rattle.std.proofs.Common.{is_ok, sym, ap, ◌∙◌}
use Rattle.model.specs.Drafts.{recorded}
use Rattle.model.specs.Tables.{Answer}
use Rattle.model.proofs.WrongEntries.{row_passes}
use Rattle.book.proofs.taking.take_state.Goals as goal

pub take_entries-requires : goal.take_entries-requires
take_entries-requires c = row_passes (recorded c.args.model.now) c.args.row.now (ap (λ (a : Answer). is_ok a) (sym c.check_row.ensures.answer ∙ c.in_default.is))
