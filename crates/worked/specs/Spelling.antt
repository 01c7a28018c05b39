-- How the models of the examples are written down.
use Rattle.std.specs.Prelude.{ℕ, List}
use Rattle.model.specs.declared.moves.Move.{Move}
use Rattle.model.specs.declared.variable.Variable.{Variable}
use Rattle.detectors.specs.WorkedModels.{row_giving}

-- a variable of a size
abbrev pub variable_of : List ℕ → ℕ → Variable
variable_of name size = record { name = name; size = size }

-- a move with these conditions and effects, each a variable with its value
abbrev pub move_of : List ℕ → List (ℕ × ℕ) → List (ℕ × ℕ) → Move
move_of name conditions effects = record { name = name; conditions = row_giving conditions; effects = row_giving effects }
