-- The key model, which examples/key.hex spells: the gate opens only with the key, and no move brings the key.
use Rattle.std.specs.Prelude.{ℕ, [], ◌∷◌, codes}
use Rattle.model.specs.declared.row.Row.{Row}
use Rattle.model.specs.Records.{ModelRecord, record_of}
use Rattle.detectors.specs.WorkedModels.{row_giving, GATE, KEY}
use Rattle.worked.specs.Spelling.{variable_of, move_of}

-- the gate, and then the key
abbrev pub gate_and_key : ℕ → ℕ → Row
gate_and_key g k = row_giving ((GATE, g) ∷ (KEY, k) ∷ [])

abbrev pub key_model : ModelRecord
key_model =
    record_of (variable_of (codes "GATE    ") 2 ∷ variable_of (codes "KEY     ") 2 ∷ [])
    (move_of (codes "open-it ") ((KEY, 1) ∷ []) ((GATE, 1) ∷ []) ∷ [])
    (gate_and_key 0 0)
    (row_giving ((GATE, 1) ∷ []))
