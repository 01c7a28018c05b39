-- The rows that a pattern calls dead.
use Rattle.std.specs.Prelude.{◌≡◌, ◌≤◌, ℕ, ◌*◌, Bool, true, ◌&&◌, List, map, is_some, Some, None, Decides, Option}
use Rattle.model.specs.declared.row.Row.{Row}
use Rattle.model.specs.declared.variable.Variable.{Variable}
use Rattle.model.specs.Rows.{at}
use Rattle.model.specs.Limits.{size_at}
use Rattle.model.specs.Records.{ModelRecord, row_of_model, Sealed}
use Rattle.detectors.specs.declared.pattern.variables.Variables.{Variables}
use Rattle.detectors.specs.Cuts.{cut_of, cut_move}
use Rattle.detectors.specs.CutWalk.{cut_off}
use Rattle.detectors.specs.ReachedCuts.{NoCutRowContainsTheGoal}

-- the size of a variable; 1 where there is no variable
abbrev pub size_or_one : List Variable → Option ℕ → ℕ
size_or_one vs None = 1
size_or_one vs (Some v) = size_at vs v

abbrev pub product_of_sizes : List Variable → Variables → ℕ
product_of_sizes vs x = size_at vs x.first * (size_or_one vs x.second * size_or_one vs x.third)

-- the row gives the variable, if there is one
abbrev pub given_if_any : Row → Option ℕ → Bool
given_if_any row None = true
given_if_any row (Some v) = is_some (at row v)

-- the row leaves none of the variables open
abbrev pub gives : Row → Variables → Bool
gives row x = is_some (at row x.first) && (given_if_any row x.second && given_if_any row x.third)

-- a row of the model that gives the variables is dead if none of the cuts reached from its own contains the cut goal
abbrev pub pattern_dead : ModelRecord → Variables → Row → Bool
pattern_dead d x row = row_of_model d row && (gives row x && cut_off (map (cut_move x) d.moves) (cut_of x d.goal) (cut_of x row))

-- What the dead set of a pattern says of every row: dead exactly if it is a row of the model that gives the variables, and no cut row
-- that is reached contains the cut goal.
unfoldable pub PatternDecides : ModelRecord → Variables → Type 0
PatternDecides d x = (row : Row) → Decides (pattern_dead d x row) ((row_of_model d row ≡ true) × (gives row x ≡ true) × NoCutRowContainsTheGoal d x row)

-- so of every sealed model and any variables of few values together, whether a pattern is over them or not
unfoldable pub PatternDecidesForEveryModel : Type 0
PatternDecidesForEveryModel = (d : ModelRecord) (x : Variables) → Sealed d → product_of_sizes d.variables x ≤ 512 → PatternDecides d x
