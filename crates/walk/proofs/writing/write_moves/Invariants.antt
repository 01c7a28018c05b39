use Rattle.std.proofs.Common.{◌≡◌, ◌<◌, ◌≤◌, ◌++◌, length, drop}
use Rattle.walk.specs.Walks.{way}
use Rattle.lists.specs.Fronts.{over}
use Rattle.walk.proofs.writing.write_moves.Given as goal

abbrev pub invariant-loop-place : goal.invariant-loop-place
invariant-loop-place l = record {
  within : l.place < length l.listed;
  left_to_write : l.left ≡ length (way l.place l.listed l.place);
  fits : l.left ≤ length l.plan;
  written : way l.place l.listed l.place ++ drop l.left l.plan ≡ over (way l.from l.listed l.from) l.initial.plan;
}

abbrev pub decreases-loop-place : goal.decreases-loop-place
decreases-loop-place l = l.place
