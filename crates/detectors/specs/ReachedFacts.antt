-- Which facts are reached from a row, and which rows are dead for it.
use Rattle.std.specs.Prelude.{◌≡◌, ℕ, ◌<◌, Bool, true, Some, None, Decides, Option, ◌==◌}
use Rattle.model.specs.declared.row.Row.{Row}
use Rattle.model.specs.declared.moves.Move.{Move}
use Rattle.model.specs.Limits.{size_at}
use Rattle.lists.specs.Members.{Among}
use Rattle.model.specs.Records.{ModelRecord, row_of_model, Sealed}
use Rattle.model.specs.Rows.{at}
use Rattle.detectors.specs.Closure.{relaxed_dead}

-- a value agrees with an entry that gives it, and with an open one
abbrev pub agrees : Option ℕ → ℕ → Bool
agrees None x = true
agrees (Some w) x = w == x

-- The variable v with the value x is reached from the row: it is a fact of the model that agrees with the row, or it is an
-- effect of a move whose condition facts are all reached.
pub data Reached (d : ModelRecord) (row : Row) : ℕ → ℕ → Type 0 where
  at_first : (v x : ℕ) → x < size_at d.variables v → agrees (at row v) x ≡ true → Reached d row v x
  added : (m : Move) → Among d.moves m → ((u y : ℕ) → at m.conditions u ≡ Some y → Reached d row u y) → (v x : ℕ) → at m.effects v ≡ Some x → Reached d row v x

-- some goal fact is not reached from the row
abbrev pub SomeGoalFactNotReached : ModelRecord → Row → Type 0
SomeGoalFactNotReached d row = (v : ℕ) × (x : ℕ) × (at d.goal v ≡ Some x) × (Reached d row v x → ⊥)

-- what the relaxed dead set says of every row: dead exactly if it is a row of the model from which some goal fact is not reached
unfoldable pub RelaxedDecides : ModelRecord → Type 0
RelaxedDecides d = (row : Row) → Decides (relaxed_dead d row) ((row_of_model d row ≡ true) × SomeGoalFactNotReached d row)

-- so of every sealed model, whether a detector was made of it or not
unfoldable pub RelaxedDecidesForEveryModel : Type 0
RelaxedDecidesForEveryModel = (d : ModelRecord) → Sealed d → RelaxedDecides d
