use Rattle.std.proofs.Common.{◌≡◌, ◌∙◌, None, rules}
use Rattle.std.specs.List.{list_all, zip}
use borrow.Author.Tests.{tests}
use Rattle.std.proofs.lemmas.Iterator.{YieldsList-from_zip, YieldsList-from_slice}
use Rattle.std.proofs.lemmas.Iterator.Search.{all_from_yields_List}
use Rattle.model.specs.Rows.{same_entry}
use Rattle.lists.proofs.Chains.{all_below_pairs}
use Rattle.model.proofs.row.methods.same_entries.Goals as goal

pub returns : goal.returns
returns c =
    let r = c.args.mine.now in
    let t = c.args.theirs.now in
    let told : c.all.result ≡ list_all (λ p. same_entry p.0 p.1) (zip r.entries t.entries) = all_from_yields_List (λ p. same_entry p.0 p.1) c.all.new.self _ c.all.result c.all.ensures.ran (YieldsList-from_zip (YieldsList-from_slice r.entries cc) (YieldsList-from_slice t.entries cc)) (λ x b q k. search (rules, tests)) in
    told ∙ all_below_pairs same_entry None r.entries t.entries 32 r.full t.full
