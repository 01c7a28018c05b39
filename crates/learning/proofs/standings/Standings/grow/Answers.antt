use Rattle.learning.proofs.Growing.{one_more_grown, all_grown}
use Rattle.std.proofs.Common.{ap, ◌∙◌, arith}
use Rattle.learning.specs.Standings.{after_growth, with_standing}
use Rattle.learning.proofs.standings.Standings.grow.Goals as goal

pub loop-number-preserved : goal.loop-number-preserved
loop-number-preserved c =
    let step = one_more_grown c.args.moves.now c.args.growth.now c.args.itself c.args.part.now c.args.self.now c.loop-number.self c.loop-number.number c.loop-number.invariant.so_far c.loop-number.invariant.others (omega arith) c.index-moves-number.result c.index-moves-number.is c.put.new.self
    (c.put.ensures ∙ ap (with_standing c.loop-number.self c.loop-number.number) (c.after_growth-standing.ensures ∙ ap (after_growth c.args.growth.now c.args.itself c.args.part.now c.index-moves-number.result) c.at.ensures)) in
    record { so_far = step.0; others = step.1 }

pub returns : goal.returns
returns c = all_grown c.args.moves.now c.args.growth.now c.args.itself c.args.part.now c.args.self.now c.loop-number.self c.loop-number.number c.loop-number.invariant.so_far (omega arith)
