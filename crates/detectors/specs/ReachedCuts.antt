-- The rows reached when rows and moves are cut to the variables of a pattern.
use Rattle.std.specs.Prelude.{◌≡◌, ℕ, Bool, true, false, cond, ◌||◌, Some, None, Option, ◌==◌, ◌≢◌}
use Rattle.model.specs.declared.row.Row.{Row}
use Rattle.model.specs.declared.moves.Move.{Move}
use Rattle.lists.specs.Members.{Among}
use Rattle.model.specs.Rows.{at, row_of, contained}
use Rattle.model.specs.Moves.{applicable, progression}
use Rattle.model.specs.Records.{ModelRecord}
use Rattle.detectors.specs.declared.pattern.variables.Variables.{Variables}

-- i is the variable, if there is one
abbrev pub is_variable : Option ℕ → ℕ → Bool
is_variable None i = false
is_variable (Some v) i = v == i

-- i is one of the variables
abbrev pub one_of : Variables → ℕ → Bool
one_of x i = x.first == i || (is_variable x.second i || is_variable x.third i)

-- the row with the entries of the variables, and open elsewhere
abbrev pub cut_row : Variables → Row → Row
cut_row x row = row_of (λ i. cond (one_of x i) (at row i) None)

-- the move with its conditions and effects cut likewise
abbrev pub cut_row_move : Variables → Move → Move
cut_row_move x m = record { name = m.name; conditions = cut_row x m.conditions; effects = cut_row x m.effects }

-- a row is reached if it is the row's own cut, or a cut move of the model leads to it from one that is reached
pub data ReachedCut (d : ModelRecord) (x : Variables) (row : Row) : Row → Type 0 where
  own_cut : ReachedCut d x row (cut_row x row)
  onward : (m : Move) → Among d.moves m → (s : Row) → ReachedCut d x row s → applicable (cut_row_move x m) s ≡ true → ReachedCut d x row (progression (cut_row_move x m) s)

-- none that is reached contains the cut goal
abbrev pub NoCutRowContainsTheGoal : ModelRecord → Variables → Row → Type 0
NoCutRowContainsTheGoal d x row = (s : Row) → ReachedCut d x row s → contained (cut_row x d.goal) s ≢ true
