use Rattle.std.proofs.Common.{◌≡◌, not, replicate, ap, ◌∙◌, ap₂, rules}
use Rattle.first_come.specs.Arrivals.{kept, keep_all, arrived}
use Rattle.model.specs.Drafts.{recorded}
use Rattle.detectors.specs.Facts.{fact_of, same_fact, row_facts, all_reached}
use Rattle.detectors.specs.Closure.{closure, first_facts, goal_missed}
use Rattle.detectors.proofs.relaxed.reaching.goal_missed.Goals as goal

pub returns : goal.returns
unfolding goal_missed first_facts
returns c =
    let d = recorded c.args.model.now in
    let filler : c.default-places.result ≡ fact_of 0 0 = search rules in
    let none = c.new.ensures.listed ∙ ap (λ f. kept (replicate 512 f) 0) filler in
    let first = c.list_row.ensures ∙ ap (λ k. keep_all same_fact k (row_facts d.variables c.args.row.now)) none in
    let final = c.saturate.ensures ∙ ap₂ closure first c.moves.ensures in
    ap not (c.all_reached.ensures ∙ ap₂ (λ k g. all_reached (arrived k) g) final c.goal.ensures)
