use Rattle.std.proofs.Common.{◌≡◌, ◌-◌, ◌≤◌}
use Rattle.first_come.specs.Arrivals.{arrived}
use Rattle.first_come.specs.Contents.{contents, lender}
use Rattle.walk.specs.declared.course.Course.TheVariants.{Underway}
use Rattle.walk.specs.Walks.{walk_at, take_state}
use Rattle.walk.specs.WorkLists.{room_of, Made}
use Rattle.walk.proofs.Steps.{runs}
use Rattle.walk.proofs.taking.take_states.Given as goal

abbrev pub invariant-loop-walked : goal.invariant-loop-walked
invariant-loop-walked g l = record {
  made : Made (contents l.initial.list) (contents l.list) Underway (runs (take_state (g.D.Detector.carried l.detector) (g.D.Detector.dead l.detector) (room_of (contents l.initial.list))) l.at (walk_at (arrived (contents l.initial.list)) Underway));
  lender : lender l.list ≡ lender l.initial.list;
  within : l.at ≤ room_of (contents l.initial.list);
}

abbrev pub decreases-loop-walked : goal.decreases-loop-walked
decreases-loop-walked g l = room_of (contents l.initial.list) - l.at
