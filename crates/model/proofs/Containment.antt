-- Containment is an order, and rows with the same entries are equal.
use Rattle.std.proofs.Common.{◌≡◌, ℕ, ◌<◌, true, Some, None, Option, refl, ap, arith, false}
use Rattle.std.proofs.lemmas.Bool.{eq-eqb, eqb-true, false≢true, both_ways}
use Rattle.std.proofs.lemmas.Bool.Decides.{nat_tests}
use Rattle.model.specs.declared.row.Row.{Row}
use Rattle.model.specs.Rows.{at, keeps, contained, differ, disagree}
use Rattle.model.specs.RowLaws.{ContainmentIsReflexive, ContainmentIsTransitive, ContainmentIsAntisymmetric}
use Rattle.lists.proofs.BelowFacts.{all_below_decides, any_below_decides}
use Rattle.model.specs.SameRows.{row_ext}

-- what containment says, entry by entry
pub contained_at : (r t : Row) → contained r t ≡ true → (i : ℕ) → i < 32 → keeps (at r i) (at t i) ≡ true
contained_at r t h = (all_below_decides (λ i. keeps (at r i) (at t i)) 32).0 h

pub contained_from : (r t : Row) → ((i : ℕ) → i < 32 → keeps (at r i) (at t i) ≡ true) → contained r t ≡ true
contained_from r t h = (all_below_decides (λ i. keeps (at r i) (at t i)) 32).1 h

pub keeps_refl : (e : Option ℕ) → keeps e e ≡ true
keeps_refl None = refl
keeps_refl (Some v) = eq-eqb v v refl

keeps_trans : (a b c : Option ℕ) → keeps a b ≡ true → keeps b c ≡ true → keeps a c ≡ true
keeps_trans None b c p q = refl
keeps_trans (Some v) None c p q = cc
keeps_trans (Some v) (Some w) None p q = cc
keeps_trans (Some v) (Some w) (Some x) p q = grind (arith, nat_tests)

pub contained_reflexive : ContainmentIsReflexive
unfolding ContainmentIsReflexive
contained_reflexive r = contained_from r r (λ i l. keeps_refl (at r i))

pub contained_transitive : ContainmentIsTransitive
unfolding ContainmentIsTransitive
contained_transitive r s t p q = contained_from r t (λ i l. keeps_trans (at r i) (at s i) (at t i) (contained_at r s p i l) (contained_at s t q i l))

keeps_antisym : (a b : Option ℕ) → keeps a b ≡ true → keeps b a ≡ true → a ≡ b
keeps_antisym None None p q = refl
keeps_antisym None (Some w) p q = cc
keeps_antisym (Some v) None p q = cc
keeps_antisym (Some v) (Some w) p q = ap (λ n. Some n) (eqb-true v w q)

pub contained_antisymmetric : ContainmentIsAntisymmetric
unfolding ContainmentIsAntisymmetric
contained_antisymmetric r t p q = row_ext r t (λ i l. keeps_antisym (at r i) (at t i) (contained_at r t p i l) (contained_at t r q i l))

-- entries that a third row has both do not differ
agree_in : (a b e : Option ℕ) → keeps a e ≡ true → keeps b e ≡ true → differ a b ≡ false
agree_in None b e p q = refl
agree_in (Some v) None e p q = refl
agree_in (Some v) (Some w) None p q = absurd (false≢true p)
agree_in (Some v) (Some w) (Some x) p q = grind (arith, nat_tests)

-- no row contains two that disagree
pub contains_no_two : (r g t : Row) → disagree r g ≡ true → contained r t ≡ true → contained g t ≡ true → ⊥
contains_no_two r g t apart within goal =
    let found = (any_below_decides (λ i. differ (at r i) (at g i)) 32).0 apart in
    both_ways _ (agree_in (at r found.0) (at g found.0) (at t found.0) (contained_at r t within found.0 found.1) (contained_at g t goal found.0 found.1)) found.2
