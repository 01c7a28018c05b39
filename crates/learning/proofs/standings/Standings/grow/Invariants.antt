use Rattle.std.proofs.Common.{◌≡◌, ℕ, ◌<◌, ◌≤◌, get_or}
use Rattle.model.specs.declared.moves.Move.{Move}
use Rattle.learning.specs.Standings.{after_growth, standing_at}
use Rattle.learning.proofs.standings.Standings.grow.Given as goal

-- the standings so far are as they stay, and the others as they were
abbrev pub invariant-loop-number : goal.invariant-loop-number
invariant-loop-number l = record {
  so_far : (n : ℕ) (m : Move) → n < l.number → m ≡ get_or l.moves n m → standing_at l.self n ≡ after_growth l.growth l.itself l.part m (standing_at l.initial.self n);
  others : (n : ℕ) → l.number ≤ n → standing_at l.self n ≡ standing_at l.initial.self n;
}
