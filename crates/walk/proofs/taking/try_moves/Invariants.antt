use Rattle.std.proofs.Common.{◌≡◌}
use Rattle.first_come.specs.Arrivals.{arrived}
use Rattle.first_come.specs.Contents.{contents, lender}
use Rattle.walk.specs.declared.course.Course.TheVariants.{Underway}
use Rattle.walk.specs.Walks.{walk_at, try_move}
use Rattle.walk.specs.WorkLists.{room_of, Made}
use Rattle.walk.proofs.Steps.{runs}
use Rattle.walk.proofs.taking.try_moves.Given as goal

abbrev pub invariant-loop-number : goal.invariant-loop-number
invariant-loop-number g l = record {
  made : Made (contents l.initial.list) (contents l.list) Underway (runs (try_move (g.D.Detector.carried l.detector) (g.D.Detector.dead l.detector) (room_of (contents l.initial.list)) l.at l.state) l.number (walk_at (arrived (contents l.initial.list)) Underway));
  lender : lender l.list ≡ lender l.initial.list;
}
