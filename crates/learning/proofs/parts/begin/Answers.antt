use Rattle.std.proofs.Common.{sym, ap, ◌∙◌, map, arith}
use Rattle.std.proofs.lemmas.List.{take_all}
use Rattle.std.proofs.lemmas.Simd.{map-map}
use Rattle.walk.specs.declared.walked.Walked.{Walked}
use Rattle.learning.specs.Parts.{first_part}
use Rattle.learning.proofs.parts.begin.Goals as goal

pub returns : goal.returns
returns g c =
    let first = first_part (g.D.Detector.carried c.args.detector.now).goal in
    let listed = c.args.listed.now in
    let parts = c.loop-place.parts in
    let i = c.loop-place.place in
    sym (take_all i parts (omega arith)) ∙ c.loop-place.invariant ∙ ap (map (λ (w : Walked). first w.state)) (take_all i listed (omega arith)) ∙ sym (map-map first (λ (w : Walked). w.state) listed)
