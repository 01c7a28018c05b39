-- What is written of rows is the commands that enter, list and offer them, written out.
use Rattle.std.proofs.Common.{◌≡◌, ℕ, zero, suc, ◌+◌, List, [], ◌∷◌, ◌++◌, Some, None, Option, sym, refl, ap, ◌∙◌}
use Rattle.std.specs.List.{flat_map, AllByRecursion}
use Rattle.std.proofs.lemmas.Grind.{flat_map-append}
use Rattle.model.specs.declared.row.Row.{Row}
use Rattle.model.specs.Rows.{at}
use Rattle.sheet.specs.Reading.{Told}
use Rattle.sheet.specs.Commands.{commands}
use Rattle.sheet.specs.Laws.{written_out, Formed, placed_from, CommandsWrittenOutReadBack}
use Rattle.sheet.proofs.WrittenOut.{reads_back}
use Rattle.book.specs.Written.{entry_written, entries_written, row_written, rows_written}

abbrev pub entry_told : ℕ → Option ℕ → List Told
entry_told i None = []
entry_told i (Some v) = (0x52, i ∷ v ∷ []) ∷ []

unfoldable pub entries_told : Row → ℕ → ℕ → List Told
entries_told row i zero = []
entries_told row i (suc n) = entry_told i (at row i) ++ entries_told row (i + 1) n

abbrev pub row_told : Row → List Told
row_told row = entries_told row 0 32 ++ (0x4e, []) ∷ []

abbrev pub rows_told : List Row → List Told
rows_told rows = flat_map row_told rows ++ (0x4f, []) ∷ []

entry_spelled : (i : ℕ) (e : Option ℕ) → entry_written i e ≡ flat_map written_out (entry_told i e)
entry_spelled i None = refl
entry_spelled i (Some v) = refl

entries_spelled : (row : Row) (i n : ℕ) → entries_written row i n ≡ flat_map written_out (entries_told row i n)
unfolding entries_written entries_told
entries_spelled row i zero = refl
entries_spelled row i (suc n) =
    (λ j. entry_spelled i (at row i) j ++ entries_spelled row (i + 1) n j) ∙ sym (flat_map-append written_out (entry_told i (at row i)) (entries_told row (i + 1) n))

row_spelled : (row : Row) → row_written row ≡ flat_map written_out (row_told row)
row_spelled row = ap (λ t. t ++ 0x4e ∷ []) (entries_spelled row 0 32) ∙ sym (flat_map-append written_out (entries_told row 0 32) ((0x4e, []) ∷ []))

each_spelled : (rows : List Row) → flat_map row_written rows ≡ flat_map written_out (flat_map row_told rows)
each_spelled [] = refl
each_spelled (r ∷ rows) = (λ j. row_spelled r j ++ each_spelled rows j) ∙ sym (flat_map-append written_out (row_told r) (flat_map row_told rows))

rows_spelled : (rows : List Row) → rows_written rows ≡ flat_map written_out (rows_told rows)
rows_spelled rows = ap (λ t. t ++ 0x4f ∷ []) (each_spelled rows) ∙ sym (flat_map-append written_out (flat_map row_told rows) ((0x4f, []) ∷ []))

-- each of them has the operands that its byte asks for
all_append : (P : Told → Type 0) (xs ys : List Told) → AllByRecursion P xs → AllByRecursion P ys → AllByRecursion P (xs ++ ys)
all_append P [] ys p q = q
all_append P (x ∷ xs) ys p q = (p.0, all_append P xs ys p.1 q)

entry_formed : (i : ℕ) (e : Option ℕ) → AllByRecursion Formed (entry_told i e)
entry_formed i None = tt
entry_formed i (Some v) = (refl, tt)

entries_formed : (row : Row) (i n : ℕ) → AllByRecursion Formed (entries_told row i n)
unfolding entries_told
entries_formed row i zero = tt
entries_formed row i (suc n) = all_append Formed (entry_told i (at row i)) (entries_told row (i + 1) n) (entry_formed i (at row i)) (entries_formed row (i + 1) n)

rows_formed : (rows : List Row) → AllByRecursion Formed (flat_map row_told rows)
rows_formed [] = tt
rows_formed (r ∷ rows) = all_append Formed (row_told r) (flat_map row_told rows) (all_append Formed (entries_told r 0 32) ((0x4e, []) ∷ []) (entries_formed r 0 32) (refl, tt)) (rows_formed rows)

-- so it is read as these commands
pub read_as_told : (rows : List Row) → commands (rows_written rows) ≡ placed_from 0 (rows_told rows)
unfolding CommandsWrittenOutReadBack
read_as_told rows =
    ap commands (rows_spelled rows) ∙ reads_back (rows_told rows) (all_append Formed (flat_map row_told rows) ((0x4f, []) ∷ []) (rows_formed rows) (refl, tt))
