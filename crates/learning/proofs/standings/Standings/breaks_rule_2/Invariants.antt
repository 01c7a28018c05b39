use Rattle.std.proofs.Common.{◌≡◌, ◌++◌, drop}
use Rattle.std.specs.List.{list_all}
use Rattle.rules.specs.Rules.{stays_in}
use Rattle.learning.specs.Learns.{keeps_with}
use Rattle.learning.specs.Standings.{AllStand}
use Rattle.learning.proofs.standings.Standings.breaks_rule_2.Given as goal

-- what is known stays right, and what is left of the moves gives the whole answer
abbrev pub invariant-loop-number : goal.invariant-loop-number
invariant-loop-number g l =
    let d = g.D.Detector.carried l.detector in
    let dead = g.D.Detector.dead l.detector in record {
      right : AllStand d dead l.rows l.parts l.part l.self;
      left : list_all (stays_in dead (l.rows ++ l.parts) l.part) (drop l.number l.step-items) ≡ keeps_with d dead l.rows l.parts l.part;
    }
