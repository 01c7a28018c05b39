-- Rows with the same entries are equal, so `==` on rows is an equivalence.
use Rattle.std.specs.Prelude.{◌≡◌, ◌<◌, ℕ, length, Some, None, Option, Decides, is_some, unwrap_or}
use Rattle.std.proofs.Common.{◌∙◌, sym, refl, ap, subst}
use mathlib.Core.HLevel.{is_prop→PathP}
use native.Mathlib.Nat.{ℕ_set}
use Rattle.std.proofs.lemmas.Bool.{eq-eqb, eqb-true, false≢true}
use Rattle.std.proofs.lemmas.Bool.Decides.{Decides-below_and}
use Rattle.std.proofs.lemmas.List.{ext_get_or}
use Rattle.std.specs.Cmp.{IsPartialEquivalence, partial_equiv_from_equiv, decided}
use Rattle.model.specs.declared.row.Row.{Row}
use Rattle.lists.specs.Below.{all_below}
use Rattle.model.specs.Rows.{at, same_entry, same_row}

-- the invariant of a row adds nothing to what it is
pub same_entries : (r t : Row) → r.entries ≡ t.entries → r ≡ t
same_entries r t p = λ i. record {
  entries = p i;
  full = is_prop→PathP (λ j. length (p j) ≡ 32) (λ j. ℕ_set (length (p j)) 32) r.full t.full i;
}

-- rows with the same entries are the same
pub row_ext : (r t : Row) → ((i : ℕ) → i < 32 → at r i ≡ at t i) → r ≡ t
row_ext r t h = same_entries r t (ext_get_or None r.entries t.entries (r.full ∙ sym t.full) (λ i l. h i (subst (λ n. i < n) r.full l)))

pub same_entry_decides : (a b : Option ℕ) → Decides (same_entry a b) (a ≡ b)
same_entry_decides None None = ((λ _. refl), λ _. refl)
same_entry_decides None (Some w) = ((λ h. absurd (false≢true h)), λ e. ap is_some e)
same_entry_decides (Some v) None = ((λ h. absurd (false≢true h)), λ e. sym (ap is_some e))
same_entry_decides (Some v) (Some w) = ((λ h. ap (λ n. Some n) (eqb-true v w h)), λ e. eq-eqb v w (ap (λ o. unwrap_or o 0) e))

each_entry_decides : (r t : Row) → Decides (same_row r t) ((i : ℕ) → i < 32 → at r i ≡ at t i)
unfolding all_below
each_entry_decides r t = Decides-below_and (λ i. same_entry (at r i) (at t i)) (λ i. at r i ≡ at t i) (all_below (λ i. same_entry (at r i) (at t i))) (λ i. same_entry_decides (at r i) (at t i)) refl (λ _. refl) 32

-- rows have the same entries exactly if they are equal
pub same_row_decides : (r t : Row) → Decides (same_row r t) (r ≡ t)
same_row_decides r t = (
  (λ h. row_ext r t ((each_entry_decides r t).0 h)),
  λ e. (each_entry_decides r t).1 (λ i l. ap (λ x. at x i) e),
)

-- so having the same entries is symmetric and transitive
pub same_row_laws : IsPartialEquivalence same_row
same_row_laws = partial_equiv_from_equiv (decided same_row same_row_decides)
