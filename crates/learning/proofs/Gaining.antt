-- A part of a state gains an entry of the state.
use Rattle.std.proofs.Common.{◌≡◌, ◌≢◌, ℕ, ◌<◌, Bool, true, false, not, ◌&&◌, is_some, Some, None, Option, refl, subst, ap, ◌∙◌, ⊎_elim, arith}
use Rattle.std.specs.Prelude.{option_map}
use Rattle.std.specs.Option.{option_map_or}
use Rattle.std.proofs.lemmas.Bool.{and_parts, both_ways, cases_eq, not-true}
use Rattle.std.proofs.lemmas.Bool.Decides.{nat_tests}
use Rattle.std.proofs.lemmas.List.{get_or-set_same, get_or-set_other, get_or-replicate}
use Rattle.model.specs.declared.row.Row.{Row}
use Rattle.model.specs.Rows.{at, open_row, with_entry, keeps, differ, contained, disagree}
use Rattle.model.specs.SameRows.{row_ext}
use Rattle.lists.proofs.BelowFacts.{any_below_decides}
use Rattle.model.proofs.Containment.{contained_at, contained_from, keeps_refl}
use Rattle.learning.specs.Parts.{disagrees_on, lowest_disagreeing, missing, lowest_missing, with_value, with_entry_of, first_part, regained}
use Rattle.learning.proofs.Lowest.{lowest_found, lowest_none, holding, holding_less}

at_same : (r : Row) (i : ℕ) (e : Option ℕ) → i < 32 → at (with_entry r i e) i ≡ e
at_same r i e l = get_or-set_same r.entries i e None (omega (arith, r.full))

at_other : (r : Row) (i k : ℕ) (e : Option ℕ) → k ≢ i → at (with_entry r i e) k ≡ at r k
at_other r i k e other = get_or-set_other r.entries i k e None other

-- single entries
differ_more : (a b c : Option ℕ) → keeps a b ≡ true → differ a c ≡ true → differ b c ≡ true
differ_more None b c k d = cc
differ_more (Some v) None c k d = cc
differ_more (Some v) (Some w) None k d = d
differ_more (Some v) (Some w) (Some u) k d = grind (arith, nat_tests)

whole_entry : (s p : Option ℕ) → keeps p s ≡ true → (is_some s && not (is_some p)) ≡ false → p ≡ s
whole_entry None None k h = refl
whole_entry None (Some w) k h = cc
whole_entry (Some v) None k h = cc
whole_entry (Some v) (Some w) k h = grind (arith, nat_tests)

keeps_open : (p e : Option ℕ) → is_some p ≡ false → keeps p e ≡ true
keeps_open None e h = refl
keeps_open (Some v) e h = cc

-- a row that contains one that disagrees with the goal disagrees with it
pub disagree_more : (p q goal : Row) → contained p q ≡ true → disagree p goal ≡ true → disagree q goal ≡ true
disagree_more p q goal within h =
    let found = (any_below_decides (λ i. differ (at p i) (at goal i)) 32).0 h in
    (any_below_decides (λ i. differ (at q i) (at goal i)) 32).1
    (found.0, found.1, differ_more (at p found.0) (at q found.0) (at goal found.0) (contained_at p q within found.0 found.1) found.2)

-- what is regained is the lowest missing variable
pub lowest_regained : (s p more : Row) → regained s p ≡ Some more → (i : ℕ) × (lowest_missing s p ≡ Some i) × (with_entry_of s p i ≡ more)
unfolding regained
lowest_regained s p more is =
    (elim (lowest_missing s p) as (λ o. lowest_missing s p ≡ o → option_map (λ i. with_entry_of s p i) o ≡ Some more → (i : ℕ) × (lowest_missing s p ≡ Some i) × (with_entry_of s p i ≡ more)) [
      | Some i ↦ λ e same. (i, e, cc)
      | None ↦ λ e same. cc
    ]) refl is

none_missing : (s p : Row) → regained s p ≡ None → lowest_missing s p ≡ None
unfolding regained
none_missing s p none = (elim (lowest_missing s p) as (λ o. option_map (λ i. with_entry_of s p i) o ≡ None → o ≡ None) [ Some i ↦ λ e. cc | None ↦ λ e. refl ]) none

-- a part with an entry of its state is contained in the state
module _ (s p : Row) (within : contained p s ≡ true) where
  entry_within : (i : ℕ) (e : Option ℕ) → at s i ≡ e → contained (with_value p i e) s ≡ true
  entry_within i None is = within
  entry_within i (Some v) is = contained_from (with_entry p i (Some v)) s (λ k l. ⊎_elim
      (λ (same : k ≡ i). rw (same, at_same p i (Some v) (omega arith), is) (keeps_refl (Some v)))
      (λ (other : k ≢ i). rw (at_other p i k (Some v) other) (contained_at p s within k l))
      (cases_eq k i))

  gained_within : (i : ℕ) → contained (with_entry_of s p i) s ≡ true
  gained_within i = entry_within i (at s i) refl

  pub regained_within : (more : Row) → regained s p ≡ Some more → contained more s ≡ true
  regained_within more is = let found = lowest_regained s p more is in subst (λ r. contained r s ≡ true) found.2 (gained_within found.0)

  -- with nothing missing the part is the state
  pub nothing_missing : regained s p ≡ None → p ≡ s
  nothing_missing none = row_ext p s (λ i l. whole_entry (at s i) (at p i) (contained_at p s within i l) (lowest_none (missing s p) (none_missing s p none) i l))

-- a variable that is missing
module _ (s p : Row) (i : ℕ) (is_missing : missing s p i ≡ true) where
  -- is given by the state
  pub given : (v : ℕ) × (at s i ≡ Some v)
  given = (elim (at s i) as (λ e. at s i ≡ e → is_some e ≡ true → (v : ℕ) × (at s i ≡ Some v)) [ Some v ↦ λ is _. (v, is) | None ↦ λ _ none. cc ]) refl (and_parts (is_some (at s i)) (not (is_some (at p i))) is_missing).0

  pub gained : with_entry_of s p i ≡ with_entry p i (Some given.0)
  gained = ap (with_value p i) given.1

  -- the part with it contains what it was
  pub gained_more : contained p (with_entry_of s p i) ≡ true
  gained_more = rw gained (contained_from p (with_entry p i (Some given.0)) (λ k l. ⊎_elim
      (λ (same : k ≡ i). rw same (keeps_open (at p i) (at (with_entry p i (Some given.0)) i) (not-true (is_some (at p i)) (and_parts (is_some (at s i)) (not (is_some (at p i))) is_missing).1)))
      (λ (other : k ≢ i). rw (at_other p i k (Some given.0) other) (keeps_refl (at p k)))
      (cases_eq k i)))

  -- and is contained in what contains that and gives the entry
  pub gained_in : i < 32 → (t : Row) → contained p t ≡ true → keeps (at s i) (at t i) ≡ true → contained (with_entry_of s p i) t ≡ true
  gained_in l t within gives = rw gained (contained_from (with_entry p i (Some given.0)) t (λ k below. ⊎_elim
      (λ (same : k ≡ i). rw (same, at_same p i (Some given.0) l, ← given.1) gives)
      (λ (other : k ≢ i). rw (at_other p i k (Some given.0) other) (contained_at p t within k below))
      (cases_eq k i)))

  -- and has no less entries than it had
  none_lost : (k : ℕ) → missing s (with_entry_of s p i) k ≡ true → missing s p k ≡ true
  none_lost k h = ⊎_elim
      (λ (same : k ≡ i). ap (missing s p) same ∙ is_missing)
      (λ (other : k ≢ i). let still = rw (gained, at_other p i k (Some given.0) other) at h in still)
      (cases_eq k i)

  no_longer : i < 32 → missing s (with_entry_of s p i) i ≡ false
  no_longer l = rw (gained, at_same p i (Some given.0) l, given.1)

-- a regained part contains what it was
pub regained_more : (s p more : Row) → regained s p ≡ Some more → contained p more ≡ true
regained_more s p more is =
    let low = lowest_regained s p more is in
    subst (λ r. contained p r ≡ true) low.2 (gained_more s p low.0 (lowest_found (missing s p) low.0 low.1).0)

-- and has fewer entries to regain
pub regained_fewer : (s p more : Row) → regained s p ≡ Some more → holding (missing s more) < holding (missing s p)
regained_fewer s p more is =
    let low = lowest_regained s p more is in
    let found = lowest_found (missing s p) low.0 low.1 in
    subst (λ r. holding (missing s r) < holding (missing s p)) low.2
    (holding_less (missing s p) (missing s (with_entry_of s p low.0)) (none_lost s p low.0 found.0) low.0 low.1 (no_longer s p low.0 found.0 found.1))

open_within : (s : Row) → contained open_row s ≡ true
open_within s = contained_from open_row s (λ i l. ap (λ e. keeps e (at s i)) (get_or-replicate 32 i None None l))

pub first_part_within : (goal s : Row) → contained (first_part goal s) s ≡ true
unfolding first_part
first_part_within goal s =
    (elim (lowest_disagreeing goal s) as (λ o. contained (option_map_or (λ i. with_entry_of s open_row i) o open_row) s ≡ true) [ Some i ↦ gained_within s open_row (open_within s) i | None ↦ open_within s ])

-- where the state disagrees with the goal, what it keeps at first does
entry_apart : (goal s : Row) (i : ℕ) → i < 32 → (e : Option ℕ) → at s i ≡ e → differ e (at goal i) ≡ true → disagree (with_value open_row i e) goal ≡ true
entry_apart goal s i l None is h = cc
entry_apart goal s i l (Some v) is h =
    (any_below_decides (λ k. differ (at (with_entry open_row i (Some v)) k) (at goal k)) 32).1 (i, l, ap (λ e. differ e (at goal i)) (at_same open_row i (Some v) l) ∙ h)

pub first_part_apart : (goal s : Row) → disagree s goal ≡ true → disagree (first_part goal s) goal ≡ true
unfolding first_part
first_part_apart goal s apart =
    let test : ℕ → Bool = disagrees_on goal s in
    let one = (any_below_decides test 32).0 apart in
    (elim (lowest_disagreeing goal s) as (λ o. lowest_disagreeing goal s ≡ o → disagree (option_map_or (λ i. with_entry_of s open_row i) o open_row) goal ≡ true) [
      | Some i ↦ λ e. let found = lowest_found test i e in entry_apart goal s i found.1 (at s i) refl found.0
      | None ↦ λ e. absurd (both_ways (test one.0) (lowest_none test e one.0 one.1) one.2)
    ]) refl
