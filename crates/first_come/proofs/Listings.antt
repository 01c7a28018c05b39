-- What a first-come list holds after items came, and when it cannot be full.
use Rattle.std.proofs.Common.{◌≡◌, ℕ, ◌<◌, ◌≤◌, Bool, true, false, eqb, ◌||◌, ◌⊎◌, List, [], ◌∷◌, ◌++◌, map, length, sym, refl, ◌∙◌, subst, inl, inr, ⊎_elim, arith}
use Rattle.std.specs.List.{AllByRecursion as All, IsDistinct, list_any}
use Rattle.std.proofs.lemmas.Map.Steps.{length-le_from_distinct_below}
use Rattle.std.proofs.lemmas.List.{length_push, length-take-le, length-map}
use Rattle.std.proofs.ByRecursion.{All-push}
use Rattle.std.proofs.lemmas.Bool.{false_from_ne_true, or_parts, ltb-true, ltb-false, eqb-true, cases_Bool, or_cases, or_left, or_right, both_ways, false≢true}
use Rattle.first_come.specs.Arrivals.{Kept, arrived, has, has_room, with_next, Distinct, keep, keep_all}
use Rattle.first_come.proofs.Arrivals.{put_cases, arrived_next, has_both, has_push, distinct_push}
use Rattle.first_come.proofs.Sameness.{from_equality}
use Rattle.first_come.proofs.Growth.{grows_keep}

module _ {T : Type 0} (same : T → T → Bool) where
  has_next : (k : Kept T) (x f : T) → has_room k ≡ true → has same (arrived (with_next k x)) f ≡ (has same (arrived k) f || same x f)
  has_next k x f room = rw (arrived_next k x room) (has_push same (arrived k) x f)

  -- what is listed was listed before, or is what came
  pub keep_from : (k : Kept T) (x f : T) → has same (arrived (keep same k x)) f ≡ true → (has same (arrived k) f ≡ true) ⊎ (same x f ≡ true)
  keep_from k x f =
      put_cases k x (λ n. has same (arrived n) f ≡ true → (has same (arrived k) f ≡ true) ⊎ (same x f ≡ true)) (has same (arrived k) x) (λ _ h. inl h)
      (λ _ room h. or_cases (has same (arrived k) f) (same x f) (sym (has_next k x f room) ∙ h)) (λ _ _ h. inl h)

  pub keep_all_from : (k : Kept T) (xs : List T) (f : T) → has same (arrived (keep_all same k xs)) f ≡ true → (has same (arrived k) f ≡ true) ⊎ (has same xs f ≡ true)
  keep_all_from k [] f h = inl h
  keep_all_from k (x ∷ xs) f h =
      ⊎_elim (λ a. ⊎_elim inl (λ e. inr (or_left (same x f) (has same xs f) e)) (keep_from k x f a)) (λ b. inr (or_right (same x f) (has same xs f) b))
      (keep_all_from (keep same k x) xs f h)

  pub keep_all_append : (k : Kept T) (xs ys : List T) → keep_all same k (xs ++ ys) ≡ keep_all same (keep_all same k xs) ys
  keep_all_append k [] ys = refl
  keep_all_append k (x ∷ xs) ys = keep_all_append (keep same k x) xs ys

  pub has_append : (xs ys : List T) (f : T) → has same (xs ++ ys) f ≡ true → (has same xs f ≡ true) ⊎ (has same ys f ≡ true)
  has_append xs ys f h = or_cases (has same xs f) (has same ys f) (sym (has_both same xs ys f) ∙ h)

  pub has_left : (xs ys : List T) (f : T) → has same xs f ≡ true → has same (xs ++ ys) f ≡ true
  has_left xs ys f h = has_both same xs ys f ∙ or_left (has same xs f) (has same ys f) h

  pub has_right : (xs ys : List T) (f : T) → has same ys f ≡ true → has same (xs ++ ys) f ≡ true
  has_right xs ys f h = has_both same xs ys f ∙ or_right (has same xs f) (has same ys f) h

  -- what every item that comes keeps
  pub through_all : (Q : Kept T → Type 0) → ((k : Kept T) (x : T) → Q k → Q (keep same k x)) → (k : Kept T) (xs : List T) → Q k → Q (keep_all same k xs)
  through_all Q on k [] q = q
  through_all Q on k (x ∷ xs) q = through_all Q on (keep same k x) xs (on k x q)

-- the sameness decides equality
module _ {T : Type 0} (same : T → T → Bool) (self : (x : T) → same x x ≡ true) (equal : (x y : T) → same x y ≡ true → x ≡ y) where
  pub all_listed : (P : T → Type 0) (xs : List T) → ((f : T) → has same xs f ≡ true → P f) → All P xs
  all_listed P [] h = tt
  all_listed P (x ∷ xs) h = (h x (or_left (same x x) (has same xs x) (self x)), all_listed P xs (λ f t. h f (or_right (same x f) (has same xs f) t)))

  -- an item that came is listed, or the list is full
  abbrev pub Holds : T → Kept T → Type 0
  Holds f k = (has same (arrived k) f ≡ true) ⊎ (length k.places ≤ k.len)

  pub holds_on : (f : T) (k : Kept T) (x : T) → Holds f k → Holds f (keep same k x)
  holds_on f k x h =
      put_cases k x (Holds f) (has same (arrived k) x) (λ _. h)
      (λ _ room. ⊎_elim (λ t. inl (has_next same k x f room ∙ or_left (has same (arrived k) f) (same x f) t))
      (λ full. absurd (omega (arith, ltb-true k.len (length k.places) room, full))) h)
      (λ _ _. h)

  pub holds_now : (k : Kept T) (x : T) → Holds x (keep same k x)
  holds_now k x =
      put_cases k x (Holds x) (has same (arrived k) x) inl
      (λ _ room. inl (has_next same k x x room ∙ or_right (has same (arrived k) x) (same x x) (self x)))
      (λ _ none. inr (ltb-false k.len (length k.places) none))

  pub holds_each : (k : Kept T) (xs : List T) (f : T) → has same xs f ≡ true → Holds f (keep_all same k xs)
  holds_each k [] f h = absurd (false≢true h)
  holds_each k (x ∷ xs) f h =
      ⊎_elim
      (λ e. through_all same (Holds f) (holds_on f) (keep same k x) xs (subst (λ y. Holds y (keep same k x)) (equal x f e) (holds_now k x)))
      (holds_each (keep same k x) xs f) (or_cases (same x f) (has same xs f) h)

  -- every item that may be listed has a code of its own below the bound
  module _ (May : T → Type 0) (code : T → ℕ) (bound : ℕ) (below : (x : T) → May x → code x < bound) (apart : (x y : T) → May x → May y → code x ≡ code y → x ≡ y) where
    code_apart : (x : T) (xs : List T) → May x → All May xs → has same xs x ≡ false → All (λ c. eqb (code x) c ≡ false) (map code xs)
    code_apart x [] b a h = tt
    code_apart x (y ∷ ys) b a h =
        let parts = or_parts (same y x) (has same ys x) h in
        let differ = λ (e : eqb (code x) (code y) ≡ true). both_ways (same y x) parts.0 (subst (λ z. same z x ≡ true) (apart x y b a.0 (eqb-true (code x) (code y) e)) (self x)) in
        (false_from_ne_true (eqb (code x) (code y)) differ, code_apart x ys b a.1 parts.1)

    code_distinct : (xs : List T) → All May xs → Distinct same xs → IsDistinct eqb (map code xs)
    unfolding IsDistinct
    code_distinct [] a d = tt
    code_distinct (x ∷ xs) a d = (code_apart x xs a.0 a.1 d.0, code_distinct xs a.1 d.1)

    code_below : (xs : List T) → All May xs → (c : ℕ) → list_any (eqb c) (map code xs) ≡ true → c < bound
    code_below [] a c h = absurd (false≢true h)
    code_below (x ∷ xs) a c h =
        ⊎_elim (λ e. omega (arith, eqb-true c (code x) e, below x a.0)) (code_below xs a.1 c) (or_cases (eqb c (code x)) (list_any (eqb c) (map code xs)) h)

    pub at_most : (xs : List T) → All May xs → Distinct same xs → length xs ≤ bound
    at_most xs a d = omega (arith, length-map xs code, length-le_from_distinct_below (map code xs) bound (code_distinct xs a d) (code_below xs a))

    -- a full list has every item that may be listed
    pub full_has : (xs : List T) → All May xs → Distinct same xs → bound ≤ length xs → (f : T) → May f → has same xs f ≡ true
    full_has xs a d l f r =
        ⊎_elim (λ t. t)
        (λ no_f. absurd (omega (arith, l, length_push xs f, at_most (xs ++ f ∷ []) (All-push May xs f a r) (distinct_push same (from_equality same self equal) xs f d no_f))))
        (cases_Bool (has same xs f))

    -- so what came is listed
    pub listed_if_held : (k : Kept T) → bound ≤ length k.places → k.len ≤ length k.places → Distinct same (arrived k) → ((f : T) → has same (arrived k) f ≡ true → May f) → (f : T) → May f → Holds f k → has same (arrived k) f ≡ true
    listed_if_held k long fits d only f r h =
        ⊎_elim (λ t. t)
        (λ full. full_has (arrived k) (all_listed May (arrived k) only) d (omega (arith, length-take-le k.len k.places fits, long, full)) f r) h

-- the lengths stay
abbrev pub Sized : {T : Type 0} → ℕ → Kept T → Type 0
Sized n k = (length k.places ≡ n) × (k.len ≤ length k.places)

pub sized_on : {T : Type 0} (same : T → T → Bool) (n : ℕ) (k : Kept T) (x : T) → Sized n k → Sized n (keep same k x)
sized_on same n k x s = let g = grows_keep same k x in (g.long ∙ s.0, g.fits s.1)
