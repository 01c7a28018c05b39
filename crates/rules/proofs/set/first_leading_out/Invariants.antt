use Rattle.std.proofs.Common.{◌≡◌, drop}
use Rattle.rules.specs.Rules.{stays_in}
use Rattle.lists.specs.Searches.{first_failing, first_failing_pair}
use Rattle.rules.proofs.set.first_leading_out.Given as goal

-- what is left of the list gives the whole answer
abbrev pub invariant-loop-place : goal.invariant-loop-place
invariant-loop-place g l =
    let stays = stays_in (g.D.Detector.dead l.detector) l.set in
    let moves = (g.D.Detector.carried l.detector).moves in
    first_failing_pair stays moves l.place (drop l.place l.set) ≡ first_failing_pair stays moves 0 l.set

-- and what is left of the moves, whether one of them leads out of the row
abbrev pub invariant-loop-number : goal.invariant-loop-number
invariant-loop-number g l =
    let stays = stays_in (g.D.Detector.dead l.detector) l.set l.row in
    let moves = (g.D.Detector.carried l.detector).moves in
    first_failing stays l.number (drop l.number l.step-items) ≡ first_failing stays 0 moves
