use Rattle.std.proofs.Common.{refl, length, get_or, ap, arith}
use Rattle.std.proofs.lemmas.List.{get_or_default}
use Rattle.walk.proofs.PlanBytes.{one_move_more, way_bound, way_none}
use Rattle.walk.proofs.writing.count_moves.Goals as goal

pub overflow_add-count : goal.overflow_add-count
overflow_add-count c =
    let listed = c.args.listed.now in
    let more = one_move_more listed c.requires.rooted c.loop-place.place c.loop-place-test.true c.loop-place.invariant.within _ refl in
    let few = way_bound c.args.from listed c.args.from in
    omega (arith, more.shorter, few)

pub loop-place-preserved : goal.loop-place-preserved
loop-place-preserved c =
    let listed = c.args.listed.now in
    let i = c.loop-place.place in
    let read = get_or_default listed i c.index-listed-place.result _ c.loop-place.invariant.within in
    let more = one_move_more listed c.requires.rooted i c.loop-place-test.true c.loop-place.invariant.within (get_or listed i c.index-listed-place.result) read in
    record { within = omega (arith, more.earlier); counted = omega (arith, more.shorter) }

pub returns : goal.returns
returns c = omega (arith, ap length (way_none c.args.listed.now c.loop-place.place (omega arith)))
