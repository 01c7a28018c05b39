use Rattle.std.proofs.Common.{◌≡◌, ◌≤◌, length, take}
use Rattle.settling.specs.Candidates.{unmarked}
use Rattle.settling.proofs.rounds.copy_unmarked.Given as goal

abbrev pub invariant-loop-candidate : goal.invariant-loop-candidate
invariant-loop-candidate l = record {
  so_far : take l.count l.front ≡ unmarked (take l.candidate-index l.candidates);
  few : l.count ≤ l.candidate-index;
  room : length l.front ≡ length l.fn.front;
}
