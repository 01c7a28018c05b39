use Rattle.std.proofs.Common.{length-set, ◌∙◌, arith}
use Rattle.settling.proofs.Marks.{unmarked_copied}
use Rattle.settling.proofs.rounds.copy_unmarked.Goals as goal

pub loop-candidate-preserved : goal.loop-candidate-preserved
loop-candidate-preserved c =
    let room = c.loop-candidate.invariant.room in
    record {
      so_far = unmarked_copied c.args.candidates.now c.loop-candidate.candidate-index c.candidate-item.result (omega arith) c.candidate-item.is c.loop-candidate.front c.loop-candidate.count c.loop-candidate.invariant.so_far (omega arith) c.if-candidate.false;
      few = omega arith;
      room = length-set c.loop-candidate.front c.loop-candidate.count c.candidate-item.result.row ∙ room;
    }
