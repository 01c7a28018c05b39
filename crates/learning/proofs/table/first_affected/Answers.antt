use Rattle.std.proofs.Common.{not, sym, ◌∙◌, refl, arith}
use Rattle.learning.specs.Learns.{keeps_with, first_affected}
use Rattle.learning.proofs.TableFacts.{row_read, row_put, fails_further}
use Rattle.learning.proofs.table.first_affected.Goals as goal

pub loop-place-init : goal.loop-place-init
unfolding first_affected
loop-place-init g c = record { right = c.requires.right; left = refl }

pub breaks_rule_2-requires-clause-right : goal.breaks_rule_2-requires-clause-right
breaks_rule_2-requires-clause-right g c =
    row_read (g.D.Detector.carried c.args.detector.now) (g.D.Detector.dead c.args.detector.now) c.args.rows.now c.args.parts.now c.loop-place.table c.loop-place.invariant.right (omega arith)
    c.loop-place.place c.index-parts-place.result c.loop-place-test.true c.index-parts-place.is c.index-table-place.result

pub returns-then-breaks_rule_2-clause-right : goal.returns-then-breaks_rule_2-clause-right
returns-then-breaks_rule_2-clause-right g c =
    row_put (g.D.Detector.carried c.args.detector.now) (g.D.Detector.dead c.args.detector.now) c.args.rows.now c.args.parts.now c.loop-place.table c.loop-place.invariant.right (omega arith)
    c.loop-place.place c.index-parts-place.result c.loop-place-test.true c.index-parts-place.is c.breaks_rule_2.new.self c.breaks_rule_2.ensures.right

pub loop-place-preserved : goal.loop-place-preserved
loop-place-preserved g c =
    let d = g.D.Detector.carried c.args.detector.now in
    let dead = g.D.Detector.dead c.args.detector.now in record {
      right = row_put d dead c.args.rows.now c.args.parts.now c.loop-place.table c.loop-place.invariant.right (omega arith)
          c.loop-place.place c.index-parts-place.result c.loop-place-test.true c.index-parts-place.is c.breaks_rule_2.new.self c.breaks_rule_2.ensures.right;
      left = fails_further (λ p. not (keeps_with d dead c.args.rows.now c.args.parts.now p)) c.args.parts.now c.loop-place.place _ c.loop-place.invariant.left
          c.index-parts-place.result c.loop-place-test.true c.index-parts-place.is (sym c.breaks_rule_2.ensures.answer ∙ c.if-breaks_rule_2.false);
    }
