use Rattle.std.proofs.Common.{◌≡◌, take, map}
use Rattle.settling.specs.Candidates.{at_start}
use Rattle.settling.proofs.rounds.begin.Given as goal

-- the rows so far are in their places
abbrev pub invariant-loop-place : goal.invariant-loop-place
invariant-loop-place g l = take l.place l.candidates ≡ map (at_start (g.B.Detector.carried l.book).goal) (take l.place l.list)
