use Rattle.std.proofs.Common.{◌+◌, ◌∙◌, arith, rules}
use Rattle.first_come.specs.Contents.{contents}
use Rattle.walk.specs.declared.course.Course.TheVariants.{Underway}
use Rattle.walk.proofs.Steps.{taken_within, taken_next, taken_ended, taken_all}
use Rattle.walk.proofs.taking.take_states.Goals as goal

pub returns-in_default-try_moves : goal.returns-in_default-try_moves
returns-in_default-try_moves g c =
    let d = g.D.Detector.carried c.args.detector.now in
    let dead = g.D.Detector.dead c.args.detector.now in
    let lent = contents c.args.list.now in
    let k = contents c.loop-walked.list in
    let after = contents c.try_moves.new.list in
    let within = taken_within d dead lent c.args.list.now.fits c.loop-walked.at k c.loop-walked.invariant.made c.in-Some.walked (search rules) in
    let next = taken_next d dead lent c.args.list.now.fits c.loop-walked.at k c.loop-walked.invariant.made c.in-Some.walked (search rules) after c.try_moves.result c.try_moves.ensures.made in
    record {
      made = taken_ended d dead lent c.args.list.now.fits (c.loop-walked.at + 1) after c.try_moves.result (omega (arith, within)) c.in_default-try_moves.not-Underway next;
      lender = c.try_moves.ensures.lender ∙ c.loop-walked.invariant.lender;
    }

pub loop-walked-smaller : goal.loop-walked-smaller
loop-walked-smaller g c =
    let within = taken_within (g.D.Detector.carried c.args.detector.now) (g.D.Detector.dead c.args.detector.now) (contents c.args.list.now) c.args.list.now.fits c.loop-walked.at (contents c.loop-walked.list) c.loop-walked.invariant.made c.in-Some.walked (search rules) in
    omega (arith, within)

pub loop-walked-preserved : goal.loop-walked-preserved
loop-walked-preserved g c =
    let d = g.D.Detector.carried c.args.detector.now in
    let dead = g.D.Detector.dead c.args.detector.now in
    let lent = contents c.args.list.now in
    let k = contents c.loop-walked.list in
    let within = taken_within d dead lent c.args.list.now.fits c.loop-walked.at k c.loop-walked.invariant.made c.in-Some.walked (search rules) in
    record {
      made = taken_next d dead lent c.args.list.now.fits c.loop-walked.at k c.loop-walked.invariant.made c.in-Some.walked (search rules) (contents c.try_moves.new.list) Underway c.in-Underway.ensures.made;
      lender = c.try_moves.ensures.lender ∙ c.loop-walked.invariant.lender;
      within = omega (arith, within);
    }

pub returns-clause-made : goal.returns-clause-made
returns-clause-made g c =
    taken_all (g.D.Detector.carried c.args.detector.now) (g.D.Detector.dead c.args.detector.now) (contents c.args.list.now) c.args.list.now.fits c.loop-walked.at (contents c.loop-walked.list) c.loop-walked.invariant.made c.loop-walked.invariant.within (search rules)
