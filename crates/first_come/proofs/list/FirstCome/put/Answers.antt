use Rattle.std.proofs.Common.{rules}
use Rattle.first_come.specs.Contents.{contents}
use Rattle.first_come.proofs.Arrivals.{distinct_next}
use Rattle.first_come.proofs.list.FirstCome.put.Goals as goal

pub invariant_of-self-2-clause-once : goal.invariant_of-self-2-clause-once
invariant_of-self-2-clause-once g c =
    distinct_next g.T.PartialEq.eq g.met.T.Eq.laws (contents c.args.self.now) c.args.item c.args.self.now.once c.requires (search rules)
