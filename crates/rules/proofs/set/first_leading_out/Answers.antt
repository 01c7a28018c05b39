use Rattle.std.proofs.Common.{arith}
use Rattle.rules.specs.Rules.{stays_in}
use Rattle.lists.proofs.Searches.{failing_found, failing_passed, failing_ended, pair_found, pair_passed, pair_ended}
use Rattle.rules.proofs.set.first_leading_out.Goals as goal

pub returns-then-not-stays_in : goal.returns-then-not-stays_in
returns-then-not-stays_in g c =
    let stays = stays_in (g.D.Detector.dead c.args.detector.now) c.args.set.now in
    let moves = (g.D.Detector.carried c.args.detector.now).moves in
    let row = c.index-set-place.result in
    let found = failing_found (stays row) c.moves-step-items.result.now c.loop-number.number _ c.loop-number.invariant c.step-item.result (omega arith) c.step-item.is cc in
    pair_found stays moves c.args.set.now c.loop-place.place _ c.loop-place.invariant row (omega arith) c.index-set-place.is c.loop-number.number found

pub loop-number-preserved : goal.loop-number-preserved
loop-number-preserved g c =
    let stays = stays_in (g.D.Detector.dead c.args.detector.now) c.args.set.now in
    failing_passed (stays c.index-set-place.result) c.moves-step-items.result.now c.loop-number.number _ c.loop-number.invariant c.step-item.result (omega arith) c.step-item.is cc

pub loop-place-preserved : goal.loop-place-preserved
loop-place-preserved g c =
    let stays = stays_in (g.D.Detector.dead c.args.detector.now) c.args.set.now in
    let moves = (g.D.Detector.carried c.args.detector.now).moves in
    let row = c.index-set-place.result in
    let none = failing_ended (stays row) c.moves-step-items.result.now c.loop-number.number _ c.loop-number.invariant (omega arith) in
    pair_passed stays moves c.args.set.now c.loop-place.place _ c.loop-place.invariant row (omega arith) c.index-set-place.is none

pub returns-after-loop-place : goal.returns-after-loop-place
returns-after-loop-place g c =
    let stays = stays_in (g.D.Detector.dead c.args.detector.now) c.args.set.now in
    let moves = (g.D.Detector.carried c.args.detector.now).moves in
    pair_ended stays moves c.args.set.now c.loop-place.place _ c.loop-place.invariant (omega arith)
