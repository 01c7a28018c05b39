use Rattle.std.proofs.Common.{◌≡◌, drop}
use Rattle.first_come.specs.Arrivals.{keep_all}
use Rattle.detectors.specs.Cuts.{same_cut}
use Rattle.detectors.specs.CutWalk.{results}
use Rattle.detectors.specs.WalkedList.{cuts}
use Rattle.detectors.proofs.pattern.walking.Walk.follow_all.Given as goal

abbrev pub invariant-loop-step : goal.invariant-loop-step
invariant-loop-step l = keep_all same_cut (cuts l.self) (results (drop l.step-index l.moves) l.from) ≡ keep_all same_cut (cuts l.initial.self) (results l.moves l.from)
