-- The lowest number for which a test holds, and how many there are.
use Rattle.std.proofs.Common.{◌≡◌, ℕ, ◌+◌, ◌<◌, ◌≤◌, zero, suc, Bool, true, false, cond, List, [], ◌∷◌, length, Some, None, refl, sym, ap, ◌∙◌, ⊎_elim, arith}
use Rattle.std.specs.List.{filter, find, range_with_len}
use Rattle.std.proofs.lemmas.Bool.{both_ways, cases_eq, cond_both}
use Rattle.std.proofs.lemmas.List.FromFn.{length-range_with_len}
use Rattle.lists.proofs.Members.{length_filtered}
use Rattle.learning.specs.Parts.{lowest}

module _ (test : ℕ → Bool) where
  -- of n numbers from a on
  found_from : (a n i : ℕ) → find test (range_with_len a n) ≡ Some i → (test i ≡ true) × (i < a + n)
  found_from a zero i e = cc
  found_from a (suc n) i e =
      (elim (test a) as (λ b. test a ≡ b → cond b (Some a) (find test (range_with_len (a + 1) n)) ≡ Some i → (test i ≡ true) × (i < a + suc n)) [
        | true ↦ λ holds h. let same : a ≡ i = cc in (ap test (sym same) ∙ holds, omega arith)
        | false ↦ λ _ h. let later = found_from (a + 1) n i h in (later.0, omega arith)
      ]) refl e

  none_from : (a n : ℕ) → find test (range_with_len a n) ≡ None → (i : ℕ) → a ≤ i → i < a + n → test i ≡ false
  none_from a zero e i low high = absurd (omega arith)
  none_from a (suc n) e i low high =
      (elim (test a) as (λ b. test a ≡ b → cond b (Some a) (find test (range_with_len (a + 1) n)) ≡ None → test i ≡ false) [
        | true ↦ λ _ h. cc
        | false ↦ λ fails h. ⊎_elim (λ (same : a ≡ i). ap test (sym same) ∙ fails) (λ other. none_from (a + 1) n h i (omega arith) (omega arith)) (cases_eq a i)
      ]) refl e

  pub lowest_found : (i : ℕ) → lowest test ≡ Some i → (test i ≡ true) × (i < 32)
  lowest_found i e = found_from 0 32 i e

  pub lowest_none : lowest test ≡ None → (i : ℕ) → i < 32 → test i ≡ false
  lowest_none e i l = none_from 0 32 e i (omega arith) l

-- for how many variables a test holds
abbrev pub holding : (ℕ → Bool) → ℕ
holding test = length (filter test (range_with_len 0 32))

pub holding_most : (test : ℕ → Bool) → holding test ≤ 32
holding_most test = omega (arith, length_filtered test (range_with_len 0 32), length-range_with_len 0 32)

-- where q holds, p does
module _ (p q : ℕ → Bool) (more : (i : ℕ) → q i ≡ true → p i ≡ true) where
  no_more : (xs : List ℕ) → length (filter q xs) ≤ length (filter p xs)
  no_more [] = omega arith
  no_more (x ∷ xs) =
      let later = no_more xs in
      cond_both (q x) (x ∷ filter q xs) (filter q xs) (λ l. length l ≤ length (filter p (x ∷ xs)))
      (λ holds. rw (more x holds) (omega arith))
      (λ _. cond_both (p x) (x ∷ filter p xs) (filter p xs) (λ l. length (filter q xs) ≤ length l) (λ _. omega arith) (λ _. later))

  less : (xs : List ℕ) (i : ℕ) → find p xs ≡ Some i → q i ≡ false → length (filter q xs) < length (filter p xs)
  less [] i e gone = cc
  less (x ∷ xs) i e gone =
      let later = less xs i in
      let as_many = no_more xs in
      (elim (p x) as (λ b. p x ≡ b → cond b (Some x) (find p xs) ≡ Some i → length (filter q (x ∷ xs)) < length (cond b (x ∷ filter p xs) (filter p xs))) [
        | true ↦ λ _ h. let same : x ≡ i = cc in let here : q x ≡ false = ap q same ∙ gone in rw here (omega arith)
        | false ↦ λ fails h.
            cond_both (q x) (x ∷ filter q xs) (filter q xs) (λ l. length l < length (filter p xs))
            (λ holds. absurd (both_ways (p x) fails (more x holds))) (λ _. later h gone)
      ]) refl e

  -- one variable less, if the lowest for which p holds is gone
  pub holding_less : (i : ℕ) → lowest p ≡ Some i → q i ≡ false → holding q < holding p
  holding_less i e gone = less (range_with_len 0 32) i e gone
