use Rattle.std.proofs.Common.{arith}
use Rattle.rules.specs.Rules.{keeps_rule_1}
use Rattle.lists.proofs.Searches.{failing_found, failing_passed, failing_ended}
use Rattle.rules.proofs.set.first_meeting_goal.Goals as goal

pub returns-then-not-disagrees : goal.returns-then-not-disagrees
returns-then-not-disagrees g c =
    failing_found (keeps_rule_1 (g.D.Detector.carried c.args.detector.now)) c.args.list.now c.loop-place.place _ c.loop-place.invariant c.index-list-place.result (omega arith) c.index-list-place.is cc

pub loop-place-preserved : goal.loop-place-preserved
loop-place-preserved g c =
    failing_passed (keeps_rule_1 (g.D.Detector.carried c.args.detector.now)) c.args.list.now c.loop-place.place _ c.loop-place.invariant c.index-list-place.result (omega arith) c.index-list-place.is cc

pub returns : goal.returns
returns g c =
    failing_ended (keeps_rule_1 (g.D.Detector.carried c.args.detector.now)) c.args.list.now c.loop-place.place _ c.loop-place.invariant (omega arith)
