-- The entries of a row are taken one by one.
use Rattle.std.proofs.Common.{◌≡◌, ◌⊎◌, ℕ, ◌<◌, ◌≤◌, true, false, is_some, List, length, None, Ok, Err, sym, ap, ◌∙◌, ⊎_elim, arith}
use Rattle.std.specs.Result.{result_and}
use Rattle.std.proofs.lemmas.Bool.{both_ways, cases_lt, false≢true}
use Rattle.std.proofs.lemmas.Bool.Decides.{same_from_decides}
use Rattle.std.proofs.lemmas.List.{get_or_past, get_or-replicate}
use Rattle.refusal.specs.declared.Refusal.TheVariants.{OpenEntry}
use Rattle.model.specs.declared.row.Row.{Row}
use Rattle.model.specs.declared.variable.Variable.{Variable}
use Rattle.model.specs.Limits.{no_variable, size_at, row_fits, complete}
use Rattle.model.specs.Rows.{at, open_row}
use Rattle.model.specs.SameRows.{row_ext}
use Rattle.lists.proofs.BelowFacts.{all_below_decides}
use Rattle.model.proofs.Progressions.{fits_at, entry_fits_none}
use Rattle.book.specs.Probes.{given_checked}

-- The entries of the variables below n are given, and are taken into the state, which gives nothing else.
pub record TakenBelow (n : ℕ) (row state : Row) : Type 0 where
  pub given : (i : ℕ) → i < n → is_some (at row i) ≡ true
  pub taken : (i : ℕ) → i < n → at state i ≡ at row i
  pub nothing_else : (i : ℕ) → n ≤ i → i < 32 → at state i ≡ None

pub none_taken : (row : Row) → TakenBelow 0 row open_row
none_taken row = record {
  given = λ i less. absurd (not_less_0 i less);
  taken = λ i less. absurd (not_less_0 i less);
  nothing_else = λ i from less. get_or-replicate 32 i None None less;
}
  where
    not_less_0 : (i : ℕ) → i < 0 → ⊥
    not_less_0 i less = omega (arith, less)

module _ (vs : List Variable) (row : Row) where
  -- a variable that is left open is refused
  pub open_is_refused : (i : ℕ) → i < length vs → None ≡ at row i → Err OpenEntry ≡ result_and (given_checked vs row) (Ok row)
  open_is_refused i less none =
      let left_open : false ≡ complete vs row = same_from_decides false (complete vs row)
      ((λ t. absurd (false≢true t)), (λ all. absurd (both_ways (is_some (at row i)) (ap is_some (sym none)) (all i less))))
      (all_below_decides (λ k. is_some (at row k)) (length vs)) in
      rw (sym left_open)

  -- and where none is, the state is the row
  pub all_are_taken : (n : ℕ) (state : Row) → length vs ≤ n → n ≤ length vs → n ≤ 32 → row_fits vs row ≡ true → TakenBelow n row state → Ok state ≡ result_and (given_checked vs row) (Ok row)
  all_are_taken n state all few most fits below =
      let whole : complete vs row ≡ true = (all_below_decides (λ k. is_some (at row k)) (length vs)).1 (λ k less. below.given k (omega (arith, less, all))) in
      let same : state ≡ row = row_ext state row (λ i less. ⊎_elim (λ (inside : i < n). below.taken i inside) (λ (behind : n ≤ i). below.nothing_else i behind less ∙ sym (nothing_behind i less (omega (arith, behind, all)))) (split i n)) in
      rw (whole, same)
    where
      split : (i n : ℕ) → (i < n) ⊎ (n ≤ i)
      split i n = cases_lt i n

      nothing_behind : (i : ℕ) → i < 32 → length vs ≤ i → at row i ≡ None
      nothing_behind i less behind = entry_fits_none (size_at vs i) (at row i) (ap (λ (v : Variable). v.size) (get_or_past vs i no_variable behind)) (fits_at vs row fits i less)
