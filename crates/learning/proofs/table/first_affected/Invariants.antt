use Rattle.std.proofs.Common.{◌≡◌, not, drop}
use Rattle.std.specs.List.{position_from}
use Rattle.learning.specs.Learns.{keeps_with, first_affected}
use Rattle.learning.specs.Standings.{TableStands}
use Rattle.learning.proofs.table.first_affected.Given as goal

-- what is known stays right, and what is left of the parts gives the whole answer
abbrev pub invariant-loop-place : goal.invariant-loop-place
invariant-loop-place g l =
    let d = g.D.Detector.carried l.detector in
    let dead = g.D.Detector.dead l.detector in record {
      right : TableStands d dead l.rows l.parts l.table;
      left : position_from (λ p. not (keeps_with d dead l.rows l.parts p)) l.place (drop l.place l.parts) ≡ first_affected d dead l.rows l.parts;
    }
