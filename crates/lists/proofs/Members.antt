-- The elements of lists, and tests that all of them pass, or one.
use Rattle.std.proofs.Common.{◌≡◌, ℕ, zero, suc, ◌<◌, ◌≤◌, Bool, true, false, ◌⊎◌, ◌&&◌, cond, List, [], ◌∷◌, ◌++◌, length, Some, sym, refl, ap, ◌∙◌, subst, inl, inr, ⊎_elim, arith}
use Rattle.std.proofs.lemmas.Bool.{and_parts, and_from, and_cases, or_cases, or_left, or_right, cond_both, false≢true, true≢false, both_ways}
use Rattle.std.proofs.lemmas.List.Folds.{list_all-append}
use Rattle.std.specs.List.{list_all, list_any, filter, slice_get}
use Rattle.lists.specs.Members.{Among}

module _ {X : Type 0} where
  -- the element at a place is one of them
  pub nth_among : (xs : List X) (n : ℕ) (x : X) → slice_get xs n ≡ Some x → Among xs x
  nth_among [] n x is = cc
  nth_among (y ∷ ys) zero x is = inl (cc)
  nth_among (y ∷ ys) (suc n) x is = inr (nth_among ys n x is)

  -- what holds of every element holds of each
  pub all_among : (p : X → Bool) (xs : List X) (x : X) → list_all p xs ≡ true → Among xs x → p x ≡ true
  all_among p [] x h a = absurd a
  all_among p (y ∷ ys) x h a =
      let parts = and_parts (p y) (list_all p ys) h in
      ⊎_elim (λ e. subst (λ z. p z ≡ true) e parts.0) (all_among p ys x parts.1) a

-- elements of two lists, one behind the other
module _ {X : Type 0} where
  pub among_left : (xs ys : List X) (x : X) → Among xs x → Among (xs ++ ys) x
  among_left [] ys x a = absurd a
  among_left (y ∷ xs) ys x a = ⊎_elim inl (λ b. inr (among_left xs ys x b)) a

  pub among_right : (xs ys : List X) (x : X) → Among ys x → Among (xs ++ ys) x
  among_right [] ys x a = a
  among_right (y ∷ xs) ys x a = inr (among_right xs ys x a)

  pub among_cases : (xs ys : List X) (x : X) → Among (xs ++ ys) x → Among xs x ⊎ Among ys x
  among_cases [] ys x a = inr a
  among_cases (y ∷ xs) ys x a =
      ⊎_elim (λ e. inl (inl e)) (λ b. ⊎_elim (λ c. inl (inr c)) inr (among_cases xs ys x b)) a

-- tests of the elements; that what holds of all of them holds of each is `all_among`
module _ {X : Type 0} (p : X → Bool) where
  pub all_from : (xs : List X) → ((x : X) → Among xs x → p x ≡ true) → list_all p xs ≡ true
  all_from [] h = refl
  all_from (y ∷ ys) h = and_from (p y) (list_all p ys) (h y (inl refl)) (all_from ys (λ x a. h x (inr a)))

  pub all_both : (xs ys : List X) → list_all p xs ≡ true → list_all p ys ≡ true → list_all p (xs ++ ys) ≡ true
  all_both xs ys h k = list_all-append p xs ys ∙ and_from (list_all p xs) (list_all p ys) h k

  pub all_parts : (xs ys : List X) → list_all p (xs ++ ys) ≡ true → (list_all p xs ≡ true) × (list_all p ys ≡ true)
  all_parts xs ys h = and_parts (list_all p xs) (list_all p ys) (sym (list_all-append p xs ys) ∙ h)

  pub any_among : (xs : List X) → list_any p xs ≡ true → (x : X) × Among xs x × (p x ≡ true)
  any_among [] h = absurd (false≢true h)
  any_among (y ∷ ys) h =
      ⊎_elim (λ e. (y, inl refl, e)) (λ b. let found = any_among ys b in (found.0, inr found.1, found.2)) (or_cases (p y) (list_any p ys) h)

  pub any_from : (xs : List X) (x : X) → Among xs x → p x ≡ true → list_any p xs ≡ true
  any_from [] x a h = absurd a
  any_from (y ∷ ys) x a h =
      ⊎_elim
      (λ (e : y ≡ x). or_left (p y) (list_any p ys) (ap p e ∙ h))
      (λ b. or_right (p y) (list_any p ys) (any_from ys x b h)) a

-- what a filter keeps
module _ {X : Type 0} (p : X → Bool) where
  pub filtered_from : (xs : List X) (x : X) → Among (filter p xs) x → Among xs x × (p x ≡ true)
  filtered_from [] x a = absurd a
  filtered_from (y ∷ ys) x a =
      cond_both (p y) (y ∷ filter p ys) (filter p ys) (λ l. Among l x → Among (y ∷ ys) x × (p x ≡ true))
      (λ passes. ⊎_elim (λ (e : y ≡ x). (inl e, subst (λ z. p z ≡ true) e passes)) (λ b. let own = filtered_from ys x b in (inr own.0, own.1)))
      (λ fails b. let own = filtered_from ys x b in (inr own.0, own.1))
      a

  pub filtered_among : (xs : List X) (x : X) → Among xs x → p x ≡ true → Among (filter p xs) x
  filtered_among [] x a h = absurd a
  filtered_among (y ∷ ys) x a h =
      cond_both (p y) (y ∷ filter p ys) (filter p ys) (λ l. Among l x)
      (λ _. ⊎_elim inl (λ b. inr (filtered_among ys x b h)) a)
      (λ fails. ⊎_elim (λ (e : y ≡ x). absurd (both_ways (p y) fails (ap p e ∙ h))) (λ b. filtered_among ys x b h) a)

  -- a filter of what is filtered filters by both tests
  pub filtered_twice : (q : X → Bool) (xs : List X) → filter q (filter p xs) ≡ filter (λ x. p x && q x) xs
  filtered_twice q [] = refl
  filtered_twice q (y ∷ ys) = by_first (p y) (filtered_twice q ys)
    where
      by_first : (b : Bool) → filter q (filter p ys) ≡ filter (λ x. p x && q x) ys → filter q (cond b (y ∷ filter p ys) (filter p ys)) ≡ cond (b && q y) (y ∷ filter (λ x. p x && q x) ys) (filter (λ x. p x && q x) ys)
      by_first true later = ap (λ l. cond (q y) (y ∷ l) l) later
      by_first false later = later

  pub length_filtered : (xs : List X) → length (filter p xs) ≤ length xs
  length_filtered [] = omega arith
  length_filtered (y ∷ ys) =
      let less = length_filtered ys in
      cond_both (p y) (y ∷ filter p ys) (filter p ys) (λ l. length l ≤ suc (length ys)) (λ _. omega (arith, less)) (λ _. omega (arith, less))

  -- where each element passes, the filter drops none
  pub filter_all : (xs : List X) → list_all p xs ≡ true → filter p xs ≡ xs
  filter_all [] h = refl
  filter_all (y ∷ ys) h =
      let parts = and_parts (p y) (list_all p ys) h in
      rw (parts.0) (ap (λ (l : List X). y ∷ l) (filter_all ys parts.1))

  -- where one element fails the test, the filter drops one
  pub filter_drops : (xs : List X) → list_all p xs ≡ false → length (filter p xs) < length xs
  filter_drops [] e = absurd (true≢false e)
  filter_drops (y ∷ ys) e =
      cond_both (p y) (y ∷ filter p ys) (filter p ys) (λ l. length l < suc (length ys))
      (λ passes. ⊎_elim (λ fails. absurd (both_ways (p y) fails passes)) (λ one. let less = filter_drops ys one in omega (arith, less)) (and_cases (p y) (list_all p ys) e))
      (λ _. let less = length_filtered ys in omega (arith, less))
