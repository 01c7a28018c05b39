use Rattle.std.proofs.Common.{ℕ, ◌≤◌, ◌<◌}
use Rattle.detectors.specs.ReachedList.{facts}
use Rattle.detectors.specs.KnownMoves.{ReachedAt}
use Rattle.detectors.proofs.relaxed.reaching.Reached.count_reached.Given as goal

abbrev pub invariant-loop-variable : goal.invariant-loop-variable
invariant-loop-variable l = (v : ℕ) → l.known ≤ v → v < l.variable → ReachedAt (facts l.self) l.row v
