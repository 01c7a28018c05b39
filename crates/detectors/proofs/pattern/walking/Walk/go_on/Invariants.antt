use Rattle.std.proofs.Common.{◌≡◌, ◌-◌}
use Rattle.detectors.specs.CutWalk.{walk_from}
use Rattle.detectors.specs.WalkedList.{cuts}
use Rattle.detectors.proofs.pattern.walking.Walk.go_on.Given as goal

abbrev pub invariant-loop-place : goal.invariant-loop-place
invariant-loop-place l = walk_from (512 - l.place) l.place (cuts l.self) l.moves ≡ walk_from 512 0 (cuts l.initial.self) l.moves
