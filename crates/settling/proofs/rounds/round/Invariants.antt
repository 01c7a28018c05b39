use Rattle.std.proofs.Common.{◌≡◌, take, map}
use Rattle.std.specs.List.{list_any}
use Rattle.settling.specs.Candidates.{after, marked_by, unmarked}
use Rattle.settling.specs.Standings.{TableStands}
use Rattle.settling.proofs.rounds.round.Given as goal

-- the candidates so far have their marks, and the standings are true
abbrev pub invariant-loop-place : goal.invariant-loop-place
invariant-loop-place g l =
    let d = g.B.Detector.carried l.book in
    let calls = g.B.Detector.dead l.book in
    record {
      so_far : take l.place l.candidates ≡ map (after d calls (unmarked l.begun)) (take l.place l.begun);
      any : l.marks ≡ list_any (marked_by d calls (unmarked l.begun)) (take l.place l.begun);
      stand : TableStands calls l.begun d.moves l.table;
    }
