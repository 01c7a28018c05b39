use Rattle.std.proofs.Common.{◌≡◌, ◌+◌, ◌<◌, length}
use Rattle.walk.specs.Walks.{way}
use Rattle.walk.proofs.writing.count_moves.Given as goal

abbrev pub invariant-loop-place : goal.invariant-loop-place
invariant-loop-place l = record {
  within : l.place < length l.listed;
  counted : l.count + length (way l.place l.listed l.place) ≡ length (way l.from l.listed l.from);
}

abbrev pub decreases-loop-place : goal.decreases-loop-place
decreases-loop-place l = l.place
