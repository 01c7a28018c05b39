-- Rows as they are written: the commands of a sheet that enter each row and list it, and the one that offers the list.
use Rattle.std.specs.Prelude.{ℕ, cond, List, [], ◌∷◌, ◌++◌, length, Some, None, Option, Ok, Err, Result, nat_le}
use Rattle.std.specs.List.{flat_map, range_with_len}
use Rattle.refusal.specs.declared.Refusal.{Refusal}
use Rattle.refusal.specs.declared.Refusal.TheVariants.{BufferTooShort}
use Rattle.model.specs.declared.row.Row.{Row}
use Rattle.model.specs.Rows.{at}
use Rattle.lists.specs.Fronts.{over}

-- an entry as it is written, if it is given: the entry command, the variable and the value
abbrev pub entry_written : ℕ → Option ℕ → List ℕ
entry_written i None = []
entry_written i (Some v) = 0x52 ∷ i ∷ v ∷ []

-- the entries of n variables from i on
unfoldable pub entries_written : Row → ℕ → ℕ → List ℕ
entries_written row i n = flat_map (λ k. entry_written k (at row k)) (range_with_len i n)

-- a row: its entries by rising variable, and the command by which it joins the list
abbrev pub row_written : Row → List ℕ
row_written row = entries_written row 0 32 ++ 0x4e ∷ []

-- rows in their order, and the command that offers them
abbrev pub rows_written : List Row → List ℕ
rows_written rows = flat_map row_written rows ++ 0x4f ∷ []

-- the length of what is written; refused where the buffer is shorter
abbrev pub write_answer : List ℕ → List Row → Result ℕ Refusal
write_answer buffer rows = cond (nat_le (length (rows_written rows)) (length buffer)) (Ok (length (rows_written rows))) (Err BufferTooShort)

-- the front of the buffer has what is written, and the other bytes are kept; where the buffer is shorter nothing changes
abbrev pub buffer_after : List ℕ → List Row → List ℕ
buffer_after buffer rows = cond (nat_le (length (rows_written rows)) (length buffer)) (over (rows_written rows) buffer) buffer
