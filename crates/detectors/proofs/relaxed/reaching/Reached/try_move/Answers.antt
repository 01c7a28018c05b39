use Rattle.std.proofs.Common.{arith}
use Rattle.detectors.specs.ReachedList.{facts}
use Rattle.detectors.proofs.KnownMoves.{tried_in_vain}
use Rattle.detectors.proofs.relaxed.reaching.Reached.try_move.Goals as goal

pub returns-else-reached-eq32 : goal.returns-else-reached-eq32
returns-else-reached-eq32 c =
    let counted = c.count_conditions-reached in
    tried_in_vain (facts c.args.self.now) c.args.m.now c.args.known counted.result c.requires counted.ensures (omega (arith, counted.ensures.most, c.if-reached-eq32.false))
