use Rattle.std.proofs.Common.{◌≡◌, length}
use Rattle.detectors.specs.Closure.{closure}
use Rattle.detectors.specs.KnownMoves.{EachKnown}
use Rattle.detectors.specs.ReachedList.{facts}
use Rattle.detectors.proofs.Rounds.{room}
use Rattle.detectors.proofs.relaxed.reaching.Reached.saturate.Given as goal

abbrev pub invariant-loop-known : goal.invariant-loop-known
invariant-loop-known l =
    (closure (facts l.self) l.moves ≡ closure (facts l.initial.self) l.moves)
    × (length l.known ≡ 128)
    × EachKnown (facts l.self) l.moves l.known

abbrev pub decreases-loop-known : goal.decreases-loop-known
decreases-loop-known l = room (facts l.self)
