use Rattle.std.proofs.Common.{ℕ, refl, ◌∙◌, rules}
use Rattle.std.proofs.lemmas.Iterator.{YieldsList-from_range}
use Rattle.std.proofs.lemmas.Iterator.Search.{all_from_yields_List}
use Rattle.first_come.specs.Arrivals.{arrived}
use Rattle.model.specs.Rows.{at}
use Rattle.detectors.specs.Facts.{entry_reached}
use Rattle.detectors.specs.ReachedList.{facts}
use Rattle.lists.proofs.Chains.{all_below_each}
use Rattle.detectors.proofs.relaxed.reaching.Reached.all_reached.Goals as goal

pub returns : goal.returns
returns c =
    let test = λ (v : ℕ). entry_reached (arrived (facts c.args.self.now)) v (at c.args.row.now v) in
    all_from_yields_List test _ _ _ c.all.ensures.ran (YieldsList-from_range 0 32 32 refl refl) (λ x b q k. search rules) ∙ all_below_each test 32
