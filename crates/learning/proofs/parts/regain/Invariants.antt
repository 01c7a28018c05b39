use Rattle.std.proofs.Common.{◌≡◌, length}
use Rattle.learning.specs.Standings.{TableStands}
use Rattle.learning.proofs.Regaining.{Going}
use Rattle.learning.proofs.parts.regain.Given as goal

-- what is left to regain gives the whole answer, and what is known stays right
abbrev pub invariant-loop-entries : goal.invariant-loop-entries
invariant-loop-entries g l =
    let d = g.D.Detector.carried l.detector in
    let dead = g.D.Detector.dead l.detector in record {
      going : Going d dead l.rows l.listed l.initial.parts l.entries l.parts;
      one_for_each : length l.parts ≡ length l.listed;
      right : TableStands d dead l.rows l.parts l.table;
    }
