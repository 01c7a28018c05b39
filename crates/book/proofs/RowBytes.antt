-- What is written of rows, step by step.
use Rattle.std.proofs.Common.{◌≡◌, ℕ, suc, ◌+◌, ◌-◌, ◌<◌, ◌≤◌, List, [], ◌∷◌, ◌++◌, drop, length, get_or, ap, ◌∙◌, sym, refl, arith, append_assoc, length-append, Some, None, Option, is_some, cond, ◌*◌}
use Rattle.std.specs.List.{flat_map, range_with_len, count_by, filter}
use Rattle.std.proofs.lemmas.List.Sums.{length-filter, sum_by-cons}
use Rattle.std.proofs.lemmas.List.{drop_more}
use Rattle.model.specs.declared.row.Row.{Row}
use Rattle.model.specs.Rows.{at}
use Rattle.book.specs.Written.{entry_written, entries_written, row_written, rows_written}

-- what is written of a row from the variable i on
abbrev pub row_rest : Row → ℕ → List ℕ
row_rest row i = entries_written row i (32 - i) ++ 0x4e ∷ []

pub entry_more : (row : Row) (i : ℕ) (e : Option ℕ) → i < 32 → e ≡ at row i → row_rest row i ≡ entry_written i e ++ row_rest row (i + 1)
unfolding entries_written
entry_more row i e l is =
    let left : 32 - i ≡ suc (32 - (i + 1)) = omega arith in
    rw (left, is) (append_assoc (entry_written i (at row i)) _ _)

pub entries_ended : (row : Row) (i : ℕ) → 32 ≤ i → row_rest row i ≡ 0x4e ∷ []
unfolding entries_written
entries_ended row i l =
    let e : 32 - i ≡ 0 = omega arith in
    rw e refl

-- what is written from the row i on
abbrev pub rows_rest : List Row → ℕ → List ℕ
rows_rest rows i = rows_written (drop i rows)

pub row_more : (rows : List Row) (i : ℕ) (row : Row) → i < length rows → row ≡ get_or rows i row → rows_rest rows i ≡ row_written row ++ rows_rest rows (i + 1)
row_more rows i row l is =
    ap rows_written (drop_more rows i row l) ∙ ap (λ r. rows_written (r ∷ drop (i + 1) rows)) (sym is) ∙ append_assoc (row_written row) _ _

-- how long it is
entry_length : (i : ℕ) (e : Option ℕ) → length (entry_written i e) ≡ 3 * cond (is_some e) 1 0
entry_length i None = refl
entry_length i (Some v) = refl

entries_length : (row : Row) (xs : List ℕ) → length (flat_map (λ k. entry_written k (at row k)) xs) ≡ 3 * count_by (λ k. is_some (at row k)) xs
entries_length row [] = refl
entries_length row (x ∷ xs) =
    let whole = length-append (entry_written x (at row x)) (flat_map (λ k. entry_written k (at row k)) xs) in
    let counted = sum_by-cons (λ k. cond (is_some (at row k)) 1 0) x xs in
    omega (arith, whole, counted, entry_length x (at row x), entries_length row xs)

pub row_length : (row : Row) → length (row_written row) ≡ 3 * length (filter (λ k. is_some (at row k)) (range_with_len 0 32)) + 1
unfolding entries_written
row_length row = omega (arith, length-append (entries_written row 0 32) (0x4e ∷ []), entries_length row (range_with_len 0 32), length-filter (λ k. is_some (at row k)) (range_with_len 0 32))
