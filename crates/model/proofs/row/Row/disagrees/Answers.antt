use Rattle.std.proofs.Common.{◌≡◌, ◌∙◌, None, rules}
use Rattle.std.specs.List.{list_any, zip}
use borrow.Author.Tests.{tests}
use Rattle.std.proofs.lemmas.Iterator.{YieldsList-from_zip, YieldsList-from_slice}
use Rattle.std.proofs.lemmas.Iterator.Search.{any_from_yields_List}
use Rattle.model.specs.Rows.{differ}
use Rattle.lists.proofs.Chains.{any_below_pairs}
use Rattle.model.proofs.row.Row.disagrees.Goals as goal

pub returns : goal.returns
returns c =
    let r = c.args.self.now in
    let t = c.args.other.now in
    let told : c.any.result ≡ list_any (λ p. differ p.0 p.1) (zip r.entries t.entries) = any_from_yields_List (λ p. differ p.0 p.1) c.any.new.self _ c.any.result c.any.ensures.ran (YieldsList-from_zip (YieldsList-from_slice r.entries cc) (YieldsList-from_slice t.entries cc)) (λ x b q k. search (rules, tests)) in
    told ∙ any_below_pairs differ None r.entries t.entries 32 r.full t.full
