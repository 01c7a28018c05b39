use Rattle.std.proofs.Common.{ℕ, Bool, vec_items, refl, ◌∙◌, rules}
use borrow.Author.Tests.{tests}
use Rattle.std.proofs.lemmas.Iterator.{YieldsList-from_range}
use Rattle.std.proofs.lemmas.Iterator.Search.{all_from_yields_List}
use Rattle.model.specs.Rows.{at}
use Rattle.model.specs.Limits.{size_at, entry_fits}
use Rattle.lists.proofs.Chains.{all_below_each}
use Rattle.model.proofs.domain.Domain.fits.Goals as goal

pub returns : goal.returns
returns c =
    let fits : ℕ → Bool = λ i. entry_fits (size_at (vec_items c.args.self.now.variables) i) (at c.args.row.now i) in
    let told = all_from_yields_List fits c.all.new.self _ c.all.result c.all.ensures.ran (YieldsList-from_range 0 32 32 refl refl) (λ x b q k. search (rules, tests)) in
    told ∙ all_below_each fits 32
