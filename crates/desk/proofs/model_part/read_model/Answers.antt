use Rattle.std.proofs.Common.{sym, ap, ◌∙◌, arith}
use Rattle.desk.specs.Stages.{phase_of, record_so_far}
use Rattle.desk.specs.ModelPart.{stopped}
use Rattle.desk.proofs.ModelRun.{run_ends, run_refuses, run_seals, run_goes, run_moves_on}
use Rattle.desk.proofs.model_part.read_model.Goals as goal

pub returns : goal.returns
returns c = ap stopped c.at-2.ensures ∙ sym (run_ends c.args.sheet.now c.loop-found.place _ _ c.in_default.ensures.answer) ∙ c.loop-found.invariant

pub returns-in-Ok-Break : goal.returns-in-Ok-Break
returns-in-Ok-Break c =
    let turned = rw c.in-Ok-Break.field-0-is at c.in-Ok-Break.ensures in
    sym (run_seals c.args.sheet.now c.loop-found.place _ _ _ c.in-Some.ensures.answer _ turned) ∙ c.loop-found.invariant

pub returns-in-Err : goal.returns-in-Err
returns-in-Err c = ap stopped c.at.ensures ∙ sym (run_refuses c.args.sheet.now c.loop-found.place _ _ _ c.in-Some.ensures.answer _ c.in-Err.ensures) ∙ c.loop-found.invariant

pub loop-found-preserved : goal.loop-found-preserved
loop-found-preserved c =
    let turned = rw c.in-Ok-Continue.field-0-is at c.in-Ok-Continue.ensures in
    sym (run_goes c.args.sheet.now c.loop-found.place _ _ _ c.in-Some.ensures.answer _ _ turned) ∙ c.loop-found.invariant

pub loop-found-smaller : goal.loop-found-smaller
loop-found-smaller c =
    let turned = rw c.in-Ok-Continue.field-0-is at c.in-Ok-Continue.ensures in
    let stage = c.loop-found.stage in
    let on = run_moves_on c.args.sheet.now c.loop-found.place (phase_of stage) (record_so_far stage) _ c.in-Some.ensures.answer _ _ turned in
    omega arith
