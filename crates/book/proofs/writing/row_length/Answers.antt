use Rattle.std.proofs.Common.{is_some, refl, arith, rules}
use borrow.Author.Tests.{tests}
use Rattle.std.proofs.lemmas.Iterator.{YieldsList-from_range}
use Rattle.std.proofs.lemmas.Iterator.Consumers.{YieldsList-from_filter, count_from_yields_List}
use Rattle.model.specs.Rows.{at}
use Rattle.book.proofs.RowBytes.{row_length}
use Rattle.book.proofs.writing.row_length.Goals as goal

pub returns : goal.returns
returns c =
    let told = count_from_yields_List _ c.count-given.result c.count-given.ensures.ran (YieldsList-from_filter _ (λ i. is_some (at c.args.row.now i)) (YieldsList-from_range 0 32 32 c.filter.ensures.source refl) c.filter.ensures.closure (λ x b q k. search (rules, tests))) in
    omega (arith, told, row_length c.args.row.now)
