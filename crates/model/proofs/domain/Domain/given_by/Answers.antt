use Rattle.std.proofs.Common.{ℕ, Bool, is_some, refl, ap, ◌∙◌, arith, rules}
use borrow.Author.Tests.{tests}
use Rattle.std.proofs.lemmas.Iterator.{YieldsList-from_range}
use Rattle.std.proofs.lemmas.Iterator.Search.{all_from_yields_List}
use Rattle.lists.specs.Below.{all_below}
use Rattle.model.specs.Rows.{at}
use Rattle.lists.proofs.Chains.{all_below_each}
use Rattle.model.proofs.domain.Domain.given_by.Goals as goal

pub returns : goal.returns
returns c =
    let given : ℕ → Bool = λ i. is_some (at c.args.row.now i) in
    let told = all_from_yields_List given c.all.new.self _ c.all.result c.all.ensures.ran (YieldsList-from_range 0 c.len.result c.len.result refl (omega arith)) (λ x b q k. search (rules, tests)) in
    told ∙ all_below_each given c.len.result ∙ ap (all_below given) (omega (arith, c.len.ensures, c.args.self.now.variables.ok.0))
