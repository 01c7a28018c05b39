use Rattle.std.proofs.Common.{◌≡◌, drop, length}
use Rattle.detectors.specs.Closure.{round}
use Rattle.detectors.specs.KnownMoves.{EachKnown}
use Rattle.detectors.specs.ReachedList.{facts}
use Rattle.detectors.proofs.relaxed.reaching.Reached.try_all.Given as goal

-- the moves left make of the list what all of them make of the list at the start
abbrev pub invariant-loop-index : goal.invariant-loop-index
invariant-loop-index l =
    (round (facts l.self) (drop l.index l.moves) ≡ round (facts l.initial.self) l.moves)
    × (length l.known ≡ length l.initial.known)
    × EachKnown (facts l.self) l.moves l.known
