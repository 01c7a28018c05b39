use Rattle.std.proofs.Common.{◌≡◌, take, map}
use Rattle.walk.specs.declared.walked.Walked.{Walked}
use Rattle.learning.specs.Parts.{first_part}
use Rattle.learning.proofs.parts.begin.Given as goal

-- the states so far have their parts
abbrev pub invariant-loop-place : goal.invariant-loop-place
invariant-loop-place g l =
    let d = g.D.Detector.carried l.detector in
    take l.place l.parts ≡ map (λ (w : Walked). first_part d.goal w.state) (take l.place l.listed)
