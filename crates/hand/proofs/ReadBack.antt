-- What is written of rows offers the same rows.
use Rattle.std.proofs.Common.{◌≡◌, ℕ, zero, suc, ◌+◌, ◌<◌, ◌≤◌, true, cond, List, [], ◌∷◌, ◌++◌, length, is_ok, Some, None, Option, Ok, Err, sym, refl, ap, ap₂, ◌∙◌, arith, append_assoc, length-append}
use Rattle.std.specs.Prelude.{◌==◌}
use Rattle.std.specs.List.{flat_map, list_all}
use borrow.Author.Tests.{lt-ltb}
use Rattle.std.proofs.lemmas.Bool.{and_parts}
use Rattle.std.proofs.lemmas.List.{append-nil}
use Rattle.refusal.specs.declared.Refusal.TheVariants.{TooMany}
use Rattle.model.specs.declared.row.Row.{Row}
use Rattle.model.specs.declared.variable.Variable.{Variable}
use Rattle.model.specs.Rows.{at, open_row, with_entry}
use Rattle.model.specs.Limits.{row_fits}
use Rattle.model.specs.Tables.{Answer}
use Rattle.sheet.specs.Reading.{Told}
use Rattle.sheet.specs.Laws.{written_out, placed_from}
use Rattle.hand.specs.Gathering.{Gathering, gathering, nothing}
use Rattle.hand.specs.ReadBack.{told_gathers, last_offered, offered_from, offered, WrittenRowsReadBack}
use Rattle.hand.proofs.Entries.{front, front_none, front_all, front_kept, front_more, entry_accepted}
use Rattle.hand.proofs.Spelled.{entry_told, entries_told, row_told, rows_told, read_as_told}

-- what commands offer, wherever they stand
last_told : Gathering → List Told → Option (List Row)
last_told g [] = Some g.list
last_told g (c ∷ cs) = None

told_from : List Variable → Option Gathering → List Told → Option (List Row)
told_from vs None cs = None
told_from vs (Some g) [] = None
told_from vs (Some g) (c ∷ cs) = cond (c.0 == 0x4f) (last_told g cs) (told_from vs (told_gathers vs g c) cs)

last_placed : (g : Gathering) (p : ℕ) (cs : List Told) → last_offered g (placed_from p cs) ≡ last_told g cs
unfolding last_told
last_placed g p [] = refl
last_placed g p (c ∷ cs) = refl

placed : (vs : List Variable) (o : Option Gathering) (p : ℕ) (cs : List Told) → offered_from vs o (placed_from p cs) ≡ told_from vs o cs
unfolding told_from
placed vs None p cs = refl
placed vs (Some g) p [] = refl
placed vs (Some g) p (c ∷ cs) =
    let next = p + length (written_out c) in
    ap₂ (cond (c.0 == 0x4f)) (last_placed g next cs) (placed vs (told_gathers vs g c) next cs)

module _ (vs : List Variable) (row : Row) (fits : row_fits vs row ≡ true) (list : List Row) where
  one_entry : (i : ℕ) (e : Option ℕ) (more : List Told) → i < 32 → e ≡ at row i → told_from vs (Some (gathering (front row i) list)) (entry_told i e ++ more) ≡ told_from vs (Some (gathering (front row (i + 1)) list)) more
  unfolding told_from
  one_entry i None more l is = ap (λ r. told_from vs (Some (gathering r list)) more) (front_kept row i l is)
  one_entry i (Some v) more l is =
      ap (λ (a : Answer). told_from vs (cond (is_ok a) (Some (gathering (cond (is_ok a) (with_entry (front row i) i (Some v)) (front row i)) list)) None) more) (entry_accepted vs row i v fits l is)
      ∙ ap (λ r. told_from vs (Some (gathering r list)) more) (front_more row i v l is)

  all_entries : (i n : ℕ) (more : List Told) → i + n ≡ 32 → told_from vs (Some (gathering (front row i) list)) (entries_told row i n ++ more) ≡ told_from vs (Some (gathering (front row 32) list)) more
  unfolding entries_told
  all_entries i zero more e = ap (λ k. told_from vs (Some (gathering (front row k) list)) more) (omega arith)
  all_entries i (suc n) more e =
      ap (told_from vs (Some (gathering (front row i) list))) (append_assoc (entry_told i (at row i)) (entries_told row (i + 1) n) more)
      ∙ one_entry i (at row i) (entries_told row (i + 1) n ++ more) (omega arith) refl
      ∙ all_entries (i + 1) n more (omega arith)

  next_joins : (more : List Told) → length list < 256 → told_from vs (Some (gathering row list)) ((0x4e, []) ∷ more) ≡ told_from vs (Some (gathering open_row (list ++ row ∷ []))) more
  unfolding told_from
  next_joins more few = ap (λ b. told_from vs (cond (is_ok (cond {A = Answer} b (Ok tt) (Err TooMany))) (Some (cond (is_ok (cond {A = Answer} b (Ok tt) (Err TooMany))) (gathering open_row (list ++ row ∷ [])) (gathering row list))) None) more) (lt-ltb _ _ few)

  whole_row : (more : List Told) → length list < 256 → told_from vs (Some (gathering open_row list)) (row_told row ++ more) ≡ told_from vs (Some (gathering open_row (list ++ row ∷ []))) more
  whole_row more few =
      ap (told_from vs (Some (gathering open_row list))) (append_assoc (entries_told row 0 32) ((0x4e, []) ∷ []) more)
      ∙ ap (λ r. told_from vs (Some (gathering r list)) (entries_told row 0 32 ++ (0x4e, []) ∷ more)) (sym (front_none row))
      ∙ all_entries 0 32 ((0x4e, []) ∷ more) refl
      ∙ ap (λ r. told_from vs (Some (gathering r list)) ((0x4e, []) ∷ more)) (front_all row)
      ∙ next_joins more few

all_rows : (vs : List Variable) (rows before : List Row) → list_all (row_fits vs) rows ≡ true → length before + length rows ≤ 256 → told_from vs (Some (gathering open_row before)) (rows_told rows) ≡ Some (before ++ rows)
unfolding told_from last_told
all_rows vs [] before fit few = ap (λ l. Some l) (sym (append-nil before))
all_rows vs (r ∷ rows) before fit few =
    let parts = and_parts (row_fits vs r) (list_all (row_fits vs) rows) fit in
    ap (told_from vs (Some (gathering open_row before))) (append_assoc (row_told r) (flat_map row_told rows) ((0x4f, []) ∷ []))
    ∙ whole_row vs r parts.0 before (rows_told rows) (omega arith)
    ∙ all_rows vs rows (before ++ r ∷ []) parts.1 (omega (arith, length-append before (r ∷ [])))
    ∙ ap (λ l. Some l) (append_assoc before (r ∷ []) rows)

pub rows_read_back : WrittenRowsReadBack
unfolding WrittenRowsReadBack
rows_read_back d rows fit few =
    ap (offered d.variables nothing) (read_as_told rows) ∙ placed d.variables (Some nothing) 0 (rows_told rows) ∙ all_rows d.variables rows [] fit (omega arith)
