-- What is known of a move while facts are listed.
use Rattle.std.specs.Prelude.{◌≡◌, ℕ, ◌<◌, ◌≤◌, true, false, List, Some, slice_index_or}
use Rattle.std.specs.List.{slice_get}
use Rattle.first_come.specs.Arrivals.{Kept, arrived, has}
use Rattle.first_come.proofs.Listings.{Holds}
use Rattle.model.specs.declared.row.Row.{Row}
use Rattle.model.specs.declared.moves.Move.{Move}
use Rattle.model.specs.Rows.{at}
use Rattle.detectors.specs.declared.relaxed.fact.Fact.{Fact}
use Rattle.detectors.specs.Facts.{same_fact, given_facts, entry_reached}
use Rattle.detectors.specs.Closure.{try_move}
use Rattle.detectors.specs.SameFacts.{fact_self, fact_equal}

-- the entry of the variable v is open, or its fact is listed
abbrev pub ReachedAt : Kept Fact → Row → ℕ → Type 0
ReachedAt k row v = entry_reached (arrived k) v (at row v) ≡ true

-- the first n conditions are reached, and where all 32 are, the effects are listed, as far as there is room
pub record Known (k : Kept Fact) (m : Move) (n : ℕ) : Type 0 where
  pub reached : (v : ℕ) → v < n → ReachedAt k m.conditions v
  pub listed : 32 ≤ n → (f : Fact) → has same_fact (given_facts m.effects) f ≡ true → Holds same_fact fact_self fact_equal f k

-- so of each move, by the numbers beside them
abbrev pub EachKnown : Kept Fact → List Move → List ℕ → Type 0
EachKnown k ms known = (i : ℕ) (m : Move) → slice_get ms i ≡ Some m → Known k m (slice_index_or known i 0)

-- the move was tried, and so much is known of it then
pub record Tried (k : Kept Fact) (m : Move) (after : Kept Fact) (n : ℕ) : Type 0 where
  pub facts : after ≡ try_move k m
  pub known : Known after m n

-- from `known` on, the entries up to the n-th are reached; and the n-th is not, unless these are all
pub record ReachedUpTo (k : Kept Fact) (row : Row) (known n : ℕ) : Type 0 where
  pub reached : (v : ℕ) → known ≤ v → v < n → ReachedAt k row v
  pub stops : n < 32 → entry_reached (arrived k) n (at row n) ≡ false
  pub most : n ≤ 32
