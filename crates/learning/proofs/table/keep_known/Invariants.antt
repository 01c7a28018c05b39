use Rattle.std.proofs.Common.{◌≡◌, ℕ, ◌<◌, ◌≤◌, ◌==◌, get_or}
use Rattle.model.specs.declared.row.Row.{Row}
use Rattle.learning.specs.Standings.{Grown, none_known}
use Rattle.learning.proofs.table.keep_known.Given as goal

-- the standings of the parts so far are as they stay, and the others as they were
abbrev pub invariant-loop-place : goal.invariant-loop-place
invariant-loop-place l = record {
  so_far : (k : ℕ) (p : Row) → k < l.place → p ≡ get_or l.parts k p → Grown l.moves l.growth (k == l.growth.place) p (get_or l.initial.table k none_known) (get_or l.table k none_known);
  others : (k : ℕ) → l.place ≤ k → get_or l.table k none_known ≡ get_or l.initial.table k none_known;
}
