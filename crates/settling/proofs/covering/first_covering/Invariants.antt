use Rattle.std.proofs.Common.{◌≡◌, false, take}
use Rattle.settling.specs.Candidates.{covered}
use Rattle.settling.proofs.covering.first_covering.Given as goal

-- none so far covers the row
abbrev pub invariant-loop-place : goal.invariant-loop-place
invariant-loop-place l = covered (take l.place l.candidates) l.row ≡ false
