-- What a model is, apart from how it is held: two models are the same where their records are equal.
use Rattle.std.specs.Prelude.{◌≡◌, ◌≤◌, Bool, true, ◌&&◌, List, [], length}
use Rattle.model.specs.declared.row.Row.{Row}
use Rattle.model.specs.declared.moves.Move.{Move}
use Rattle.model.specs.declared.variable.Variable.{Variable}
use Rattle.model.specs.Rows.{open_row}
use Rattle.model.specs.Limits.{sizes_fit, row_fits, moves_fit, complete}

pub record ModelRecord : Type 0 where
  pub variables : List Variable
  pub moves : List Move
  pub start : Row
  pub goal : Row

abbrev pub record_of : List Variable → List Move → Row → Row → ModelRecord
record_of vs ms start goal = record { variables = vs; moves = ms; start = start; goal = goal }

-- a model with nothing in it
abbrev pub blank : ModelRecord
blank = record_of [] [] open_row open_row

-- a row of the model: it gives only variables of the model, with values below their sizes
abbrev pub row_of_model : ModelRecord → Row → Bool
row_of_model d t = row_fits d.variables t

-- a state of the model: a row of the model without open entries
abbrev pub state_of_model : ModelRecord → Row → Bool
state_of_model d s = row_of_model d s && complete d.variables s

-- what every sealed model keeps
pub record Sealed (d : ModelRecord) : Type 0 where
  pub at_most_32_variables : length d.variables ≤ 32
  pub sizes_from_1_to_16 : sizes_fit d.variables ≡ true
  pub at_most_128_moves : length d.moves ≤ 128
  pub move_values_below_sizes : moves_fit d.variables d.moves ≡ true
  pub goal_values_below_sizes : row_of_model d d.goal ≡ true
  pub start_is_a_state : state_of_model d d.start ≡ true
