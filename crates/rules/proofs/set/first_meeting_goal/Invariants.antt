use Rattle.std.proofs.Common.{◌≡◌, drop}
use Rattle.rules.specs.Rules.{keeps_rule_1}
use Rattle.lists.specs.Searches.{first_failing}
use Rattle.rules.proofs.set.first_meeting_goal.Given as goal

-- what is left of the list gives the whole answer
abbrev pub invariant-loop-place : goal.invariant-loop-place
invariant-loop-place g l =
    let keeps = keeps_rule_1 (g.D.Detector.carried l.detector) in
    first_failing keeps l.place (drop l.place l.list) ≡ first_failing keeps 0 l.list
