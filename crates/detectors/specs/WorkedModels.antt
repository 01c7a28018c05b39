-- Two small models that the detectors are tried on. Names play no part.
use Rattle.std.specs.Prelude.{ℕ, List, [], ◌∷◌, Some}
use Rattle.model.specs.declared.row.Row.{Row}
use Rattle.model.specs.declared.moves.Move.{Move}
use Rattle.model.specs.declared.variable.Variable.{Variable}
use Rattle.model.specs.Records.{ModelRecord, record_of}
use Rattle.model.specs.Rows.{open_row, with_entry}

-- the row that gives each listed variable the value beside it
abbrev pub row_giving : List (ℕ × ℕ) → Row
row_giving [] = open_row
row_giving (e ∷ es) = with_entry (row_giving es) e.0 (Some e.1)

-- a variable of a size
abbrev variable_of : ℕ → Variable
variable_of n = record { name = []; size = n }

-- a move with these conditions and effects
abbrev move_of : List (ℕ × ℕ) → List (ℕ × ℕ) → Move
move_of conditions effects = record { name = []; conditions = row_giving conditions; effects = row_giving effects }

-- the variables of `lane`
abbrev pub LANE : ℕ
LANE = 0

abbrev pub DOCK : ℕ
DOCK = 1

-- two variables of size 3: the move that brings the one to its goal sets the other back
abbrev pub lane : ModelRecord
lane =
    record_of (variable_of 3 ∷ variable_of 3 ∷ [])
    (move_of ((LANE, 0) ∷ []) ((LANE, 1) ∷ [])
    ∷ move_of ((LANE, 1) ∷ []) ((LANE, 2) ∷ (DOCK, 0) ∷ [])
    ∷ move_of ((DOCK, 0) ∷ []) ((DOCK, 1) ∷ [])
    ∷ move_of ((DOCK, 1) ∷ []) ((DOCK, 2) ∷ (LANE, 0) ∷ [])
    ∷ [])
    (row_giving ((LANE, 0) ∷ (DOCK, 0) ∷ []))
    (row_giving ((LANE, 2) ∷ (DOCK, 2) ∷ []))

-- the variables of `key`
abbrev pub GATE : ℕ
GATE = 0

abbrev pub KEY : ℕ
KEY = 1

-- a gate that opens to whoever has the key
abbrev pub key : ModelRecord
key =
    record_of (variable_of 2 ∷ variable_of 2 ∷ [])
    (move_of ((KEY, 1) ∷ []) ((GATE, 1) ∷ []) ∷ [])
    (row_giving ((GATE, 0) ∷ (KEY, 0) ∷ []))
    (row_giving ((GATE, 1) ∷ []))
