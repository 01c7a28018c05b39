use Rattle.std.proofs.Common.{◌≡◌, ◌∙◌, rules}
use Rattle.std.specs.List.{list_any}
use borrow.Author.Tests.{tests}
use Rattle.std.proofs.lemmas.Iterator.{YieldsList-from_slice}
use Rattle.std.proofs.lemmas.Iterator.Search.{any_from_yields_List}
use Rattle.model.specs.Rows.{same_row}
use Rattle.book.proofs.FreshRows.{any_same}
use Rattle.book.proofs.adding.holds.Goals as goal

pub returns : goal.returns
returns c =
    let rows = c.args.rows.now in
    let r = c.args.row.now in
    let told : c.any.result ≡ list_any (λ own. same_row own r) rows = any_from_yields_List (λ own. same_row own r) c.any.new.self _ c.any.result c.any.ensures.ran (YieldsList-from_slice rows cc) (λ x b q k. search (rules, tests)) in
    told ∙ any_same rows r
