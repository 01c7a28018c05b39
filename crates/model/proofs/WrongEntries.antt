-- A row without wrong entries is one of the model's.
use Rattle.std.proofs.Common.{◌≡◌, ℕ, zero, suc, ◌+◌, ◌-◌, ◌<◌, ◌≤◌, Bool, true, false, cond, is_ok, List, length, Some, None, Option, Ok, Err, refl, ap, sym, ◌∙◌, nat_lt, arith, subst, ⊎_elim, Result}
use Rattle.std.specs.Prelude.{◌&&◌}
use Rattle.std.proofs.Math.Nat.{eq-or-lt_of_le}
use Rattle.std.proofs.lemmas.List.{get_or_past}
use Rattle.std.specs.Result.{result_and}
use Rattle.std.proofs.lemmas.Bool.{and_parts, and_from}
use Rattle.std.proofs.lemmas.Bool.Decides.{nat_tests, same_from_decides}
use Rattle.refusal.specs.declared.Refusal.{Refusal}
use Rattle.refusal.specs.declared.Refusal.TheVariants.{NoSuchVariable, ValueTooLarge}
use Rattle.model.specs.declared.variable.Variable.{Variable}
use Rattle.model.specs.Limits.{no_variable, size_at, row_fits, entry_fits}
use Rattle.model.specs.Rows.{at}
use Rattle.model.specs.Tables.{Answer}
use Rattle.model.specs.WrongEntries.{value_checked, first_refusal, row_checked, RowsWithoutWrongEntriesFit}
use Rattle.lists.proofs.BelowFacts.{all_below_decides}
use Rattle.model.specs.Records.{ModelRecord, row_of_model}
use Rattle.model.specs.declared.row.Row.{Row}

module _ (f : ℕ → Answer) (i : ℕ) where
  -- one number more
  more : i < 32 → first_refusal f i (32 - i) ≡ result_and (f i) (first_refusal f (i + 1) (32 - (i + 1)))
  unfolding first_refusal
  more l =
      let e : 32 - i ≡ suc (32 - (i + 1)) = omega arith in
      rw e

  pub passed : i < 32 → Ok tt ≡ f i → first_refusal f (i + 1) (32 - (i + 1)) ≡ first_refusal f i (32 - i)
  passed l ok = sym (rw (sym ok) at (more l))

  pub refused : (e : Refusal) → i < 32 → Err e ≡ f i → Err e ≡ first_refusal f i (32 - i)
  refused e l err = sym (rw (sym err) at (more l))

  pub ended : 32 ≤ i → Ok tt ≡ first_refusal f i (32 - i)
  unfolding first_refusal
  ended l =
      let e : 32 - i ≡ 0 = omega arith in
      rw e

-- where there is no variable, there is no size
no_size : (vs : List Variable) (i : ℕ) → nat_lt i (length vs) ≡ false → size_at vs i ≡ 0
no_size vs i past = ap (λ (v : Variable). v.size) (get_or_past vs i no_variable (grind (arith, nat_tests)))

below_none : (v n : ℕ) → n ≡ 0 → false ≡ nat_lt v n
below_none v n z = grind (arith, nat_tests)

-- a value is checked as it fits
value_tests : (b c : Bool) → is_ok (cond b (cond {A = Answer} c (Ok tt) (Err ValueTooLarge)) (Err NoSuchVariable)) ≡ cond b c false
value_tests true true = refl
value_tests true false = refl
value_tests false c = refl

fits_where_there_is_one : (b c : Bool) → (b ≡ false → false ≡ c) → cond b c false ≡ c
fits_where_there_is_one true c h = refl
fits_where_there_is_one false c h = h refl

same_test : (vs : List Variable) (i : ℕ) (e : Option ℕ) → is_ok (value_checked vs i e) ≡ entry_fits (size_at vs i) e
same_test vs i None = refl
same_test vs i (Some v) =
    value_tests (nat_lt i (length vs)) (nat_lt v (size_at vs i))
    ∙ fits_where_there_is_one (nat_lt i (length vs)) (nat_lt v (size_at vs i)) (λ past. below_none v (size_at vs i) (no_size vs i past))

-- two checks, one behind the other
pub ok_both : {A B E : Type 0} (a : Result A E) (b : Result B E) → is_ok (result_and a b) ≡ (is_ok a && is_ok b)
ok_both (Ok x) b = refl
ok_both (Err e) b = refl

-- no refusal among n numbers from i on, exactly if each is done
all_ok : (f : ℕ → Answer) (i n : ℕ) → is_ok (first_refusal f i n) ≡ true → (k : ℕ) → i ≤ k → k < i + n → is_ok (f k) ≡ true
unfolding first_refusal
all_ok f i zero h k l m = absurd (omega arith)
all_ok f i (suc n) h k l m =
    let parts = and_parts (is_ok (f i)) _ (sym (ok_both (f i) (first_refusal f (i + 1) n)) ∙ h) in
    ⊎_elim
    (λ (here : i ≡ k). subst (λ j. is_ok (f j) ≡ true) here parts.0)
    (λ (later : i < k). all_ok f (i + 1) n parts.1 k (omega arith) (omega arith))
    (eq-or-lt_of_le l)

ok_from : (f : ℕ → Answer) (i n : ℕ) → ((k : ℕ) → k < i + n → is_ok (f k) ≡ true) → is_ok (first_refusal f i n) ≡ true
unfolding first_refusal
ok_from f i zero h = refl
ok_from f i (suc n) h = ok_both (f i) (first_refusal f (i + 1) n) ∙ and_from _ _ (h i (omega arith)) (ok_from f (i + 1) n (λ k l. h k (omega arith)))

pub checked_rows_fit : RowsWithoutWrongEntriesFit
unfolding RowsWithoutWrongEntriesFit
checked_rows_fit vs row =
    let f : ℕ → Answer = λ i. value_checked vs i (at row i) in
    let fits = all_below_decides (λ i. entry_fits (size_at vs i) (at row i)) 32 in
    same_from_decides (is_ok (row_checked vs row)) (row_fits vs row) (
      (λ h. fits.1 (λ k l. sym (same_test vs k (at row k)) ∙ all_ok f 0 32 h k (omega arith) l)),
      (λ h. ok_from f 0 32 (λ k l. same_test vs k (at row k) ∙ fits.0 h k l)),
    )
    ((λ e. e), λ e. e)

-- a row of which no entry is refused is one of the model
pub row_passes : (d : ModelRecord) (row : Row) → is_ok (row_checked d.variables row) ≡ true → row_of_model d row ≡ true
unfolding RowsWithoutWrongEntriesFit
row_passes d row h = sym (checked_rows_fit d.variables row) ∙ h
