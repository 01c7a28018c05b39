use Rattle.settling.specs.Candidates.{unmarked}
use Rattle.settling.specs.Standings.{AllStand}
use Rattle.settling.proofs.AllMoves.{StayBefore}
use Rattle.settling.proofs.standings.Standings.lead_out.Given as goal

-- the moves so far stay in, and the standings are true
abbrev pub invariant-loop-number : goal.invariant-loop-number
invariant-loop-number g l =
    let d = g.B.Detector.carried l.book in
    let calls = g.B.Detector.dead l.book in
    record {
      so_far : StayBefore d calls (unmarked l.candidates) l.row l.number;
      stand : AllStand calls l.candidates l.row d.moves l.self.of_moves;
    }
