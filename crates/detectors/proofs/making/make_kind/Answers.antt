use Rattle.std.proofs.Common.{◌≡◌, slice_index, ◌∙◌, sym, ap, rules}
use Rattle.model.specs.Drafts.{recorded}
use Rattle.detectors.specs.Choosing.{kind_number, kind_answer}
use Rattle.detectors.specs.Patterns.{chosen_or_refused}
use Rattle.detectors.specs.Shipping.{made_told}
use Rattle.detectors.proofs.MadeByKind.{over_told, pattern_answered}
use Rattle.detectors.proofs.making.make_kind.Goals as goal

pub returns-in_ok-over-in-Pattern-clause-answer : goal.returns-in_ok-over-in-Pattern-clause-answer
returns-in_ok-over-in-Pattern-clause-answer c =
    let a = c.args.operands in
    let vs = (recorded c.args.model).variables in
    let same : made_told c.map.result ≡ over_told (chosen_or_refused c.in_ok-over-in-Pattern.field-0) = search rules in
    same ∙ pattern_answered vs (slice_index a 0) (slice_index a 1) (slice_index a 2) _ c.in_ok-over-in-Pattern.ensures.answer
    ∙ ap (λ k. kind_answer vs (kind_number k) (slice_index a 0) (slice_index a 1) (slice_index a 2)) (sym c.in-Pattern.is)
