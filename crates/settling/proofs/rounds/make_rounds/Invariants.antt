use Rattle.std.proofs.Common.{length, suc}
use Rattle.settling.specs.Candidates.{unmarked}
use Rattle.settling.specs.Standings.{TableStands}
use Rattle.settling.proofs.Going.{Going}
use Rattle.settling.proofs.rounds.make_rounds.Given as goal

abbrev pub invariant-rounds : goal.invariant-rounds
invariant-rounds g l =
    let d = g.B.Detector.carried l.book in
    let calls = g.B.Detector.dead l.book in
    record {
      going : Going d calls (suc (length l.fn.candidates)) (unmarked l.fn.candidates) (unmarked l.candidates) l.rounds;
      stand : TableStands calls l.candidates d.moves l.table;
    }

-- each round but the last marks one
abbrev pub decreases-rounds : goal.decreases-rounds
decreases-rounds g l = length (unmarked l.candidates)
