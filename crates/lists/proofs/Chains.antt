-- The tests of all numbers below a bound, as a chain over a list tells them.
use Rattle.std.proofs.Common.{⊎_elim, subst, ◌≡◌, ℕ, zero, suc, ◌+◌, ◌<◌, ◌≤◌, Bool, ◌&&◌, ◌||◌, List, length, get_or, take, sym, refl, ap, ap₂, ◌∙◌, arith, add-one}
use Rattle.std.proofs.Math.Bool.{and_comm, or_comm}
use Rattle.std.proofs.lemmas.Bool.{cases_lt}
use Rattle.std.proofs.lemmas.List.{take_all}
use Rattle.std.proofs.lemmas.List.Folds.{list_all_more, list_any_more}
use Rattle.std.proofs.lemmas.List.FromFn.{length-range_with_len, get_or-range_with_len}
use Rattle.std.proofs.lemmas.Slice.Zip.{get_or-zip, length-zip}
use denote.Param.Members.{Mut, Called}
use Rattle.std.specs.Array.{IsFromFnResult, IsFromFnResultFrom}
use Rattle.std.specs.List.{list_all, list_any, range_with_len, zip}
use Rattle.lists.specs.Below.{all_below, any_below}

-- p tests the numbers as q tests the elements of a list at their places
module _ {X : Type 0} (p : ℕ → Bool) (q : X → Bool) (xs : List X) (d : X) (same : (k : ℕ) → k < length xs → p k ≡ q (get_or xs k d)) where
  all_to : (i : ℕ) → i ≤ length xs → all_below p i ≡ list_all q (take i xs)
  unfolding all_below
  all_to zero h = refl
  all_to (suc i) h =
      let more = list_all_more q xs i d h in
      ap₂ (λ a b. a && b) (same i h) (all_to i (omega (arith, h))) ∙ and_comm (q (get_or xs i d)) (list_all q (take i xs)) ∙ sym more ∙ ap (λ n. list_all q (take n xs)) (add-one i)

  any_to : (i : ℕ) → i ≤ length xs → any_below p i ≡ list_any q (take i xs)
  unfolding any_below
  any_to zero h = refl
  any_to (suc i) h =
      let more = list_any_more q xs i d h in
      ap₂ (λ a b. a || b) (same i h) (any_to i (omega (arith, h))) ∙ or_comm (q (get_or xs i d)) (list_any q (take i xs)) ∙ sym more ∙ ap (λ n. list_any q (take n xs)) (add-one i)

  all_below_list : (n : ℕ) → length xs ≡ n → list_all q xs ≡ all_below p n
  all_below_list n e = sym (ap (list_all q) (take_all n xs (omega arith))) ∙ sym (all_to n (omega arith))

  any_below_list : (n : ℕ) → length xs ≡ n → list_any q xs ≡ any_below p n
  any_below_list n e = sym (ap (list_any q) (take_all n xs (omega arith))) ∙ sym (any_to n (omega arith))

-- over the numbers from 0
pub all_below_each : (p : ℕ → Bool) (n : ℕ) → list_all p (range_with_len 0 n) ≡ all_below p n
all_below_each p n = all_below_list p p (range_with_len 0 n) 0 (λ k h. ap p (omega (arith, get_or-range_with_len 0 n k 0 (omega (arith, h, length-range_with_len 0 n))))) n (length-range_with_len 0 n)

-- over the pairs of two lists
module _ {X : Type 0} (f : X → X → Bool) (d : X) (xs ys : List X) (n : ℕ) (long : length xs ≡ n) (as_long : length ys ≡ n) where
  pairs : ℕ
  pairs = length (zip xs ys)

  at_pair : (k : ℕ) → k < length (zip xs ys) → f (get_or xs k d) (get_or ys k d) ≡ f (get_or (zip xs ys) k (d, d)).0 (get_or (zip xs ys) k (d, d)).1
  at_pair k h = ap (λ (p : X × X). f p.0 p.1) (sym (get_or-zip xs ys k (d, d) (omega (arith, h, length-zip xs ys)) (omega (arith, h, length-zip xs ys))))

  pub all_below_pairs : list_all (λ p. f p.0 p.1) (zip xs ys) ≡ all_below (λ k. f (get_or xs k d) (get_or ys k d)) n
  all_below_pairs = all_below_list (λ k. f (get_or xs k d) (get_or ys k d)) (λ p. f p.0 p.1) (zip xs ys) (d, d) at_pair n (omega (arith, length-zip xs ys))

  pub any_below_pairs : list_any (λ p. f p.0 p.1) (zip xs ys) ≡ any_below (λ k. f (get_or xs k d) (get_or ys k d)) n
  any_below_pairs = any_below_list (λ k. f (get_or xs k d) (get_or ys k d)) (λ p. f p.0 p.1) (zip xs ys) (d, d) at_pair n (omega (arith, length-zip xs ys))

-- an array made by calls of f, each of which leaves f as it is and gives h of its number
module _ {F B : Type 0} (g : Mut F (ℕ × Unit {0}) B) (h : ℕ → B) (f : F) (gives : (k : ℕ) (y : B) (q : F) → Called g f (k, tt) y q → (q ≡ f) × (y ≡ h k)) where
  made_from : (ys : List B) (i n : ℕ) → IsFromFnResultFrom g f ys i n → (j : ℕ) → i ≤ j → j < i + n → (d : B) → get_or ys j d ≡ h j
  made_from ys i zero m j low high d = absurd (omega (arith, low, high))
  made_from ys i (suc n) m j low high d =
      let own = gives i m.1 m.0 m.3 in
      ⊎_elim
      (λ (l : i < j). made_from ys (i + 1) n (subst (λ q. IsFromFnResultFrom g q ys (i + 1) n) own.0 m.4) j (omega (arith, l)) (omega (arith, high)) d)
      (λ (le : j ≤ i). let e : i ≡ j = omega (arith, low, le) in subst (λ k. get_or ys k d ≡ h k) e (m.2.1 d ∙ own.1))
      (cases_lt i j)

  pub array_made : (ys : List B) (n : ℕ) → IsFromFnResult g f ys n → (j : ℕ) → j < n → (d : B) → get_or ys j d ≡ h j
  array_made ys n made j below d = made_from ys 0 n made.each j (omega arith) (omega (arith, below)) d
