use Rattle.std.proofs.Common.{arith}
use Rattle.learning.proofs.Regaining.{one_more}
use Rattle.learning.proofs.parts.regain.Goals as goal

pub loop-entries-preserved : goal.loop-entries-preserved
loop-entries-preserved g c = record {
  going = one_more (g.D.Detector.carried c.args.detector.now) (g.D.Detector.dead c.args.detector.now) c.args.rows.now c.args.listed.now c.args.parts.now c.loop-entries.entries c.loop-entries.parts
      c.loop-entries.invariant.going (omega arith) (cc) c.regain_once.new.parts c.regain_once.ensures.after;
  one_for_each = omega arith;
  right = c.regain_once.ensures.right;
}
