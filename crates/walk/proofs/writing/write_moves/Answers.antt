use Rattle.std.proofs.Common.{refl, ◌≡◌, ◌++◌, length, drop, sym, ap, ap₂, ◌∙◌, arith, length-set}
use Rattle.std.proofs.lemmas.List.{get_or_default}
use Rattle.walk.proofs.PlanBytes.{one_move_more, way_none}
use Rattle.walk.proofs.writing.write_moves.Goals as goal

pub overflow_sub-left : goal.overflow_sub-left
overflow_sub-left c =
    let more = one_move_more c.args.listed.now c.requires.rooted c.loop-place.place c.loop-place-test.true c.loop-place.invariant.within _ refl in
    omega (arith, more.shorter)

pub bounds-plan-left : goal.bounds-plan-left
bounds-plan-left c =
    let more = one_move_more c.args.listed.now c.requires.rooted c.loop-place.place c.loop-place-test.true c.loop-place.invariant.within _ refl in
    omega (arith, more.shorter)

pub loop-place-preserved : goal.loop-place-preserved
loop-place-preserved c =
    let listed = c.args.listed.now in
    let i = c.loop-place.place in
    let v = c.index-listed-place.result in
    let read = c.index-listed-place.is ∙ get_or_default listed i v _ c.loop-place.invariant.within in
    let more = one_move_more listed c.requires.rooted i c.loop-place-test.true c.loop-place.invariant.within v read in
    record {
      within = omega (arith, more.earlier);
      left_to_write = omega (arith, more.shorter);
      fits = simp length-set (omega arith);
      written = more.written c.loop-place.plan c.loop-place.left c.loop-place.invariant.left_to_write c.loop-place.invariant.fits ∙ c.loop-place.invariant.written;
    }

pub returns : goal.returns
returns c =
    let none = way_none c.args.listed.now c.loop-place.place (omega arith) in
    let start : c.loop-place.left ≡ 0 = omega (arith, ap length none) in
    sym (ap₂ (λ w n. w ++ drop n c.loop-place.plan) none start) ∙ c.loop-place.invariant.written
