use Rattle.std.proofs.Common.{vec_items, ap, ◌∙◌}
use Rattle.model.specs.Limits.{moves_fit}
use Rattle.model.proofs.LimitFacts.{with_begun_fits}
use Rattle.model.proofs.domain.Domain.begin_move.Goals as goal

pub invariant_of-self-clause-fit : goal.invariant_of-self-clause-fit
invariant_of-self-clause-fit c = ap (moves_fit (vec_items c.args.self.now.variables)) c.begin.ensures.after ∙ with_begun_fits _ _ _ c.args.self.now.fit
