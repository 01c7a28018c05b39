use Rattle.std.proofs.Common.{◌≡◌, ◌++◌, true, false, ap, ◌∙◌}
use Rattle.model.specs.Records.{ModelRecord}
use Rattle.rules.specs.Rules.{stays_in}
use Rattle.learning.proofs.StandingFacts.{asked, right_read, right_put, one_fails, one_passes, keeps_told}
use Rattle.learning.proofs.standings.Standings.breaks_rule_2.Goals as goal

pub loop-number-init : goal.loop-number-init
loop-number-init g c =
    let d = g.D.Detector.carried c.args.detector.now in
    let moves : c.moves-step-items.result.now ≡ d.moves = c.moves-step-items.ensures ∙ ap (λ (r : ModelRecord). r.moves) c.model.ensures in record {
      right = c.requires.right;
      left = keeps_told d (g.D.Detector.dead c.args.detector.now) c.args.rows.now c.args.parts.now c.args.part.now c.moves-step-items.result.now moves;
    }

pub look-standing-requires-clause-right : goal.look-standing-requires-clause-right
look-standing-requires-clause-right g c =
    let d = g.D.Detector.carried c.args.detector.now in
    let moves : c.moves-step-items.result.now ≡ d.moves = c.moves-step-items.ensures ∙ ap (λ (r : ModelRecord). r.moves) c.model.ensures in
    right_read d (g.D.Detector.dead c.args.detector.now) c.args.rows.now c.args.parts.now c.args.part.now c.moves-step-items.result.now moves c.loop-number.self c.loop-number.invariant.right
    c.loop-number.number c.step-item.result c.loop-number-test.true c.step-item.is c.at.result c.at.ensures

pub returns-then-leads_out-clause-right : goal.returns-then-leads_out-clause-right
returns-then-leads_out-clause-right g c =
    let d = g.D.Detector.carried c.args.detector.now in
    let moves : c.moves-step-items.result.now ≡ d.moves = c.moves-step-items.ensures ∙ ap (λ (r : ModelRecord). r.moves) c.model.ensures in
    right_put d (g.D.Detector.dead c.args.detector.now) c.args.rows.now c.args.parts.now c.args.part.now c.moves-step-items.result.now moves c.loop-number.self c.loop-number.invariant.right
    c.loop-number.number c.step-item.result c.loop-number-test.true c.step-item.is c.look-standing.result c.look-standing.ensures.right c.put.new.self c.put.ensures

pub returns-then-leads_out-clause-answer : goal.returns-then-leads_out-clause-answer
returns-then-leads_out-clause-answer g c =
    let dead = g.D.Detector.dead c.args.detector.now in
    let stays = stays_in dead (c.args.rows.now ++ c.args.parts.now) c.args.part.now in
    let out : stays c.step-item.result ≡ false = asked dead c.args.rows.now c.args.parts.now c.args.part.now c.step-item.result c.look-standing.result c.look-standing.ensures.known c.look-standing.ensures.right
    c.leads_out.result true c.leads_out.ensures c.if-leads_out.true in
    one_fails stays c.moves-step-items.result.now c.loop-number.number _ c.loop-number.invariant.left c.step-item.result c.loop-number-test.true c.step-item.is out

pub loop-number-preserved : goal.loop-number-preserved
loop-number-preserved g c =
    let d = g.D.Detector.carried c.args.detector.now in
    let dead = g.D.Detector.dead c.args.detector.now in
    let stays = stays_in dead (c.args.rows.now ++ c.args.parts.now) c.args.part.now in
    let moves : c.moves-step-items.result.now ≡ d.moves = c.moves-step-items.ensures ∙ ap (λ (r : ModelRecord). r.moves) c.model.ensures in
    let kept : stays c.step-item.result ≡ true = asked dead c.args.rows.now c.args.parts.now c.args.part.now c.step-item.result c.look-standing.result c.look-standing.ensures.known c.look-standing.ensures.right
    c.leads_out.result false c.leads_out.ensures c.if-leads_out.false in record {
      right = right_put d dead c.args.rows.now c.args.parts.now c.args.part.now c.moves-step-items.result.now moves c.loop-number.self c.loop-number.invariant.right
          c.loop-number.number c.step-item.result c.loop-number-test.true c.step-item.is c.look-standing.result c.look-standing.ensures.right c.put.new.self c.put.ensures;
      left = one_passes stays c.moves-step-items.result.now c.loop-number.number _ c.loop-number.invariant.left c.step-item.result c.loop-number-test.true c.step-item.is kept;
    }
