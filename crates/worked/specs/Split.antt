-- The split model, which examples/split.hex spells: what its one move makes of a row can be covered jointly by two rows, and by neither alone.
use Rattle.std.specs.Prelude.{ℕ, List, [], ◌∷◌, codes}
use Rattle.model.specs.declared.row.Row.{Row}
use Rattle.model.specs.Records.{ModelRecord, record_of}
use Rattle.detectors.specs.WorkedModels.{row_giving}
use Rattle.worked.specs.Spelling.{variable_of, move_of}

abbrev pub W : ℕ
W = 0

abbrev pub X : ℕ
X = 1

abbrev pub Y : ℕ
Y = 2

-- the row that leaves X open
abbrev pub w_and_y : ℕ → ℕ → Row
w_and_y w y = row_giving ((W, w) ∷ (Y, y) ∷ [])

-- all three
abbrev pub w_x_y : ℕ → ℕ → ℕ → Row
w_x_y w x y = row_giving ((W, w) ∷ (X, x) ∷ (Y, y) ∷ [])

abbrev pub split_model : ModelRecord
split_model =
    record_of (variable_of (codes "W       ") 2 ∷ variable_of (codes "X       ") 2 ∷ variable_of (codes "Y       ") 2 ∷ [])
    (move_of (codes "raise-w ") ((W, 0) ∷ []) ((W, 1) ∷ []) ∷ [])
    (w_x_y 0 0 0)
    (row_giving ((Y, 1) ∷ []))

-- the move makes W 1, Y 0 of the first row, which the other two cover jointly
abbrev pub three_rows : List Row
three_rows = w_and_y 0 0 ∷ w_x_y 1 0 0 ∷ w_x_y 1 1 0 ∷ []
