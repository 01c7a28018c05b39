-- A row's own entries, entered one by one by rising variable, are accepted and give the row.
use Rattle.std.proofs.Common.{◌≡◌, ℕ, ◌+◌, ◌<◌, ◌≤◌, ◌≢◌, true, false, cond, List, length, is_some, Some, None, Ok, Err, sym, ap, ◌∙◌, arith, nat_lt, ⊎_elim, subst}
use Rattle.std.proofs.lemmas.Bool.{cases_lt, cases_eq}
use Rattle.std.proofs.lemmas.Bool.Decides.{nat_tests}
use Rattle.std.proofs.lemmas.List.{get_or-replicate, get_or_past, get_or-set_same, get_or-set_other}
use Rattle.std.specs.Result.{result_and}
use Rattle.refusal.specs.declared.Refusal.TheVariants.{NoSuchVariable, ValueTooLarge, EntryTwice}
use Rattle.model.specs.declared.row.Row.{Row}
use Rattle.model.specs.declared.variable.Variable.{Variable}
use Rattle.model.specs.Rows.{at, row_of, open_row, with_entry}
use Rattle.model.specs.SameRows.{row_ext}
use Rattle.model.specs.Limits.{no_variable, size_at, entry_fits, row_fits}
use Rattle.model.specs.Writing.{entry_answer}
use Rattle.model.proofs.RowFacts.{at_row_of}
use Rattle.model.proofs.Progressions.{fits_at}

module _ (vs : List Variable) where
  -- an entry passes its three tests
  passed : (row : Row) (i v : ℕ) → nat_lt i (length vs) ≡ true → nat_lt v (size_at vs i) ≡ true → is_some (at row i) ≡ false → entry_answer vs row i v ≡ Ok tt
  passed row i v is below free j = result_and (cond (is j) (cond (below j) (Ok tt) (Err ValueTooLarge)) (Err NoSuchVariable)) (cond (free j) (Err EntryTwice) (Ok tt))

  -- a variable with a value below its size is there
  there : (i v : ℕ) → nat_lt v (size_at vs i) ≡ true → nat_lt i (length vs) ≡ true
  there i v below = ⊎_elim
      (λ (l : i < length vs). grind (arith, nat_tests))
      (λ (past : length vs ≤ i). let none : size_at vs i ≡ 0 = ap (λ (w : Variable). w.size) (get_or_past vs i no_variable past) in absurd (grind (arith, nat_tests)))
      (cases_lt i (length vs))

-- the row with the entries of the first variables, as many as i
abbrev pub front : Row → ℕ → Row
front row i = row_of (λ k. cond (nat_lt k i) (at row k) None)

module _ (row : Row) where
  at_front : (i k : ℕ) → k < 32 → at (front row i) k ≡ cond (nat_lt k i) (at row k) None
  at_front i k l = at_row_of (λ k. cond (nat_lt k i) (at row k) None) k l

  front_open : (i : ℕ) → i < 32 → at (front row i) i ≡ None
  front_open i l = at_front i i l ∙ grind (arith, nat_tests)

  none_before : (k : ℕ) → cond (nat_lt k 0) (at row k) None ≡ None
  none_before k = grind (arith, nat_tests)

  pub front_none : front row 0 ≡ open_row
  front_none = row_ext (front row 0) open_row (λ k l. at_front 0 k l ∙ none_before k ∙ sym (get_or-replicate 32 k None None l))

  pub front_all : front row 32 ≡ row
  front_all = row_ext (front row 32) row (λ k l. at_front 32 k l ∙ grind (arith, nat_tests))

  below_next : (i k : ℕ) → k ≢ i → cond (nat_lt k i) (at row k) None ≡ cond (nat_lt k (i + 1)) (at row k) None
  below_next i k ne = grind (arith, nat_tests)

  at_next : (i : ℕ) → at row i ≡ cond (nat_lt i (i + 1)) (at row i) None
  at_next i = grind (arith, nat_tests)

  pub front_kept : (i : ℕ) → i < 32 → None ≡ at row i → front row i ≡ front row (i + 1)
  front_kept i l free = row_ext (front row i) (front row (i + 1)) (λ k m. ⊎_elim
      (λ (e : k ≡ i). subst (λ n. at (front row i) n ≡ at (front row (i + 1)) n) (sym e) (front_open i l ∙ free ∙ at_next i ∙ sym (at_front (i + 1) i l)))
      (λ (ne : k ≢ i). at_front i k m ∙ below_next i k ne ∙ sym (at_front (i + 1) k m))
      (cases_eq k i))

  pub front_more : (i v : ℕ) → i < 32 → Some v ≡ at row i → with_entry (front row i) i (Some v) ≡ front row (i + 1)
  front_more i v l is = row_ext (with_entry (front row i) i (Some v)) (front row (i + 1)) (λ k m. ⊎_elim
      (λ (e : k ≡ i). subst (λ n. at (with_entry (front row i) i (Some v)) n ≡ at (front row (i + 1)) n) (sym e) (get_or-set_same (front row i).entries i (Some v) None (omega (arith, (front row i).full)) ∙ is ∙ at_next i ∙ sym (at_front (i + 1) i l)))
      (λ (ne : k ≢ i). get_or-set_other (front row i).entries i k (Some v) None ne ∙ at_front i k m ∙ below_next i k ne ∙ sym (at_front (i + 1) k m))
      (cases_eq k i))

-- an entry of a row that fits is accepted behind those of the variables before it
pub entry_accepted : (vs : List Variable) (row : Row) (i v : ℕ) → row_fits vs row ≡ true → i < 32 → Some v ≡ at row i → entry_answer vs (front row i) i v ≡ Ok tt
entry_accepted vs row i v fits l is =
    let below : nat_lt v (size_at vs i) ≡ true = ap (entry_fits (size_at vs i)) is ∙ fits_at vs row fits i l in
    passed vs (front row i) i v (there vs i v below) below (ap is_some (front_open row i l))
