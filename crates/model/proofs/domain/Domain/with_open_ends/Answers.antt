use Rattle.std.proofs.Common.{vec_items}
use Rattle.model.proofs.LimitFacts.{open_fits}
use Rattle.model.proofs.domain.Domain.with_open_ends.Goals as goal

pub invariant_of-result : goal.invariant_of-result
invariant_of-result c =
    let fits = open_fits (vec_items c.args.self.variables) in
    record { starts = rw c.open.ensures fits; goals = rw c.open-2.ensures fits }
