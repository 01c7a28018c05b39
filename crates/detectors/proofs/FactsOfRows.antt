-- Which facts a row has, and when all of them are among those listed.
use Rattle.std.proofs.Common.{◌≡◌, ℕ, zero, suc, ◌+◌, ◌-◌, ◌<◌, ◌≤◌, Bool, true, false, List, [], ◌∷◌, Some, None, Option, sym, refl, ap, ◌∙◌, subst, ⊎_elim, arith}
use Rattle.std.proofs.Math.Bool.{or-false}
use Rattle.std.proofs.lemmas.Option.{none-some}
use Rattle.std.proofs.lemmas.Bool.{cases_lt, cases_eq, and_cases, eqb-true, eq-eqb, ltb-true, false≢true, true≢false}
use Rattle.first_come.specs.Arrivals.{Kept, has, keep_all}
use Rattle.first_come.proofs.Listings.{has_append, has_left, has_right, keep_all_append}
use Rattle.model.specs.declared.row.Row.{Row}
use Rattle.model.specs.declared.variable.Variable.{Variable}
use Rattle.lists.specs.Below.{all_below}
use Rattle.model.specs.Limits.{size_at, entry_fits, row_fits}
use Rattle.model.specs.Rows.{at}
use Rattle.lists.proofs.BelowFacts.{all_below_decides}
use Rattle.model.proofs.Progressions.{fits_at}
use Rattle.model.proofs.RowFacts.{open_past}
use Rattle.detectors.specs.declared.relaxed.fact.Fact.{Fact}
use Rattle.detectors.specs.Facts.{fact_of, same_fact, facts_from, given_fact, given_at, given_facts, entry_facts, facts_at, row_facts, entry_reached, all_reached}
use Rattle.detectors.specs.ReachedFacts.{agrees}
use Rattle.detectors.specs.SameFacts.{fact_self, fact_equal}

-- the facts from the number i on make `all` of what is listed
abbrev pub StillToList : (ℕ → List Fact) → ℕ → ℕ → Kept Fact → Kept Fact → Type 0
StillToList f n i k all = keep_all same_fact k (facts_from f i (n - i)) ≡ all

module _ (f : ℕ → List Fact) (n i : ℕ) (k : Kept Fact) where
  -- those at i are listed first
  pub listed_one : i < n → keep_all same_fact k (facts_from f i (n - i)) ≡ keep_all same_fact (keep_all same_fact k (f i)) (facts_from f (i + 1) (n - (i + 1)))
  unfolding facts_from
  listed_one h = let e : n - i ≡ suc (n - (i + 1)) = omega arith in ap (λ m. keep_all same_fact k (facts_from f i m)) e ∙ keep_all_append same_fact k (f i) _

  -- none is left
  pub listed_all : n ≤ i → keep_all same_fact k (facts_from f i (n - i)) ≡ k
  unfolding facts_from
  listed_all h = let e : n - i ≡ 0 = omega arith in ap (λ m. keep_all same_fact k (facts_from f i m)) e

-- each fact comes from one of the numbers
from_which : (f : ℕ → List Fact) (i n : ℕ) (p : Fact) → has same_fact (facts_from f i n) p ≡ true → (j : ℕ) × (j < i + n) × (has same_fact (f j) p ≡ true)
unfolding facts_from
from_which f i zero p h = absurd (false≢true h)
from_which f i (suc n) p h =
    ⊎_elim (λ t. (i, omega arith, t)) (λ t. let r = from_which f (i + 1) n p t in (r.0, omega (arith, r.1), r.2))
    (has_append same_fact (f i) (facts_from f (i + 1) n) p h)

from_each : (f : ℕ → List Fact) (i n : ℕ) (p : Fact) (j : ℕ) → i ≤ j → j < i + n → has same_fact (f j) p ≡ true → has same_fact (facts_from f i n) p ≡ true
unfolding facts_from
from_each f i zero p j a b h = absurd (omega arith)
from_each f i (suc n) p j a b h =
    ⊎_elim
    (λ (e : j ≡ i). has_left same_fact (f i) (facts_from f (i + 1) n) p (subst (λ k. has same_fact (f k) p ≡ true) e h))
    (λ ne. has_right same_fact (f i) (facts_from f (i + 1) n) p (from_each f (i + 1) n p j (omega (arith, ne)) (omega arith) h))
    (cases_eq j i)

only : (f p : Fact) → has same_fact (f ∷ []) p ≡ true → f ≡ p
only f p h = fact_equal f p (sym (or-false (same_fact f p)) ∙ h)

itself : (f : Fact) → has same_fact (f ∷ []) f ≡ true
itself f = rw (fact_self f) refl

-- a row gives only the first 32 variables
pub given_below : (row : Row) (v x : ℕ) → at row v ≡ Some x → v < 32
given_below row v x h =
    ⊎_elim (λ (l : v < 32). l) (λ (past : 32 ≤ v). absurd (none-some x (sym (open_past row v past) ∙ h))) (cases_lt v 32)

-- what a row gives is below its variable's size
pub given_fits : (vs : List Variable) (row : Row) → row_fits vs row ≡ true → (v x : ℕ) → at row v ≡ Some x → x < size_at vs v
given_fits vs row fits v x h =
    ltb-true x (size_at vs v) (subst (λ e. entry_fits (size_at vs v) e ≡ true) h (fits_at vs row fits v (given_below row v x h)))

given_fact_in : (v : ℕ) (e : Option ℕ) (p : Fact) → has same_fact (given_fact v e) p ≡ true → (p.variable ≡ v) × (e ≡ Some p.value)
given_fact_in v None p h = absurd (false≢true h)
given_fact_in v (Some x) p h = let e = only (fact_of v x) p h in (sym (ap (λ (f : Fact). f.variable) e), ap (λ (f : Fact). Some f.value) e)

pub given_in : (row : Row) (p : Fact) → has same_fact (given_facts row) p ≡ true → at row p.variable ≡ Some p.value
given_in row p h =
    let r = from_which (given_at row) 0 32 p h in
    let q = given_fact_in r.0 (at row r.0) p r.2 in
    ap (at row) q.0 ∙ q.1

pub in_given : (row : Row) (v x : ℕ) → at row v ≡ Some x → has same_fact (given_facts row) (fact_of v x) ≡ true
in_given row v x h =
    from_each (given_at row) 0 32 (fact_of v x) v (omega arith) (omega (arith, given_below row v x h))
    (subst (λ e. has same_fact (given_fact v e) (fact_of v x) ≡ true) (sym h) (itself (fact_of v x)))

entry_fact_in : (v size : ℕ) (e : Option ℕ) (p : Fact) → entry_fits size e ≡ true → has same_fact (entry_facts v size e) p ≡ true → (p.variable ≡ v) × (p.value < size) × (agrees e p.value ≡ true)
entry_fact_in v size None p ok h =
    let r = from_which (λ x. fact_of v x ∷ []) 0 size p h in
    let e = only (fact_of v r.0) p r.2 in
    (sym (ap (λ (f : Fact). f.variable) e), omega (arith, r.1, ap (λ (f : Fact). f.value) e), refl)
entry_fact_in v size (Some x) p ok h =
    let e = only (fact_of v x) p h in
    let value = ap (λ (f : Fact). f.value) e in
    (sym (ap (λ (f : Fact). f.variable) e), omega (arith, ltb-true x size ok, value), eq-eqb x p.value value)

pub row_in : (vs : List Variable) (row : Row) → row_fits vs row ≡ true → (p : Fact) → has same_fact (row_facts vs row) p ≡ true → (p.value < size_at vs p.variable) × (agrees (at row p.variable) p.value ≡ true)
row_in vs row fits p h =
    let r = from_which (facts_at vs row) 0 32 p h in
    let q = entry_fact_in r.0 (size_at vs r.0) (at row r.0) p (fits_at vs row fits r.0 (omega (arith, r.1))) r.2 in
    (subst (λ v. p.value < size_at vs v) (sym q.0) q.1, ap (λ v. agrees (at row v) p.value) q.0 ∙ q.2)

in_entry : (v size : ℕ) (e : Option ℕ) (x : ℕ) → x < size → agrees e x ≡ true → has same_fact (entry_facts v size e) (fact_of v x) ≡ true
in_entry v size None x l h = from_each (λ y. fact_of v y ∷ []) 0 size (fact_of v x) x (omega arith) (omega arith) (itself (fact_of v x))
in_entry v size (Some w) x l h = subst (λ y. has same_fact (fact_of v y ∷ []) (fact_of v x) ≡ true) (sym (eqb-true w x h)) (itself (fact_of v x))

pub in_row : (vs : List Variable) (row : Row) (v x : ℕ) → v < 32 → x < size_at vs v → agrees (at row v) x ≡ true → has same_fact (row_facts vs row) (fact_of v x) ≡ true
in_row vs row v x within l h =
    from_each (facts_at vs row) 0 32 (fact_of v x) v (omega arith) (omega arith) (in_entry v (size_at vs v) (at row v) x l h)

-- a test that does not hold at every number fails at one
below_fails : (p : ℕ → Bool) (n : ℕ) → all_below p n ≡ false → (k : ℕ) × (p k ≡ false)
unfolding all_below
below_fails p zero h = absurd (true≢false h)
below_fails p (suc n) h = ⊎_elim (λ e. (n, e)) (below_fails p n) (and_cases (p n) (all_below p n) h)

-- all facts of a row are there
module _ (facts : List Fact) (row : Row) where
  abbrev here : ℕ → Bool
  here v = entry_reached facts v (at row v)

  pub all_reached_each : all_reached facts row ≡ true → (v x : ℕ) → at row v ≡ Some x → has same_fact facts (fact_of v x) ≡ true
  all_reached_each h v x q = subst (λ e. entry_reached facts v e ≡ true) q ((all_below_decides here 32).0 h v (given_below row v x q))

  pub all_reached_from : ((v x : ℕ) → at row v ≡ Some x → has same_fact facts (fact_of v x) ≡ true) → all_reached facts row ≡ true
  all_reached_from h = (all_below_decides here 32).1 (λ v l. entry_from v (at row v) (h v))
    where
      entry_from : (v : ℕ) (e : Option ℕ) → ((x : ℕ) → e ≡ Some x → has same_fact facts (fact_of v x) ≡ true) → entry_reached facts v e ≡ true
      entry_from v None h = refl
      entry_from v (Some x) h = h x refl

  pub all_reached_fails : all_reached facts row ≡ false → (v : ℕ) × (x : ℕ) × (at row v ≡ Some x) × (has same_fact facts (fact_of v x) ≡ false)
  all_reached_fails h =
      let r = below_fails here 32 h in
      let q = entry_missed r.0 (at row r.0) r.1 in
      (r.0, q.0, q.1, q.2)
    where
      entry_missed : (v : ℕ) (e : Option ℕ) → entry_reached facts v e ≡ false → (x : ℕ) × (e ≡ Some x) × (has same_fact facts (fact_of v x) ≡ false)
      entry_missed v None h = absurd (true≢false h)
      entry_missed v (Some x) h = (x, refl, h)
