-- The front of a list, and a list at the front of a buffer.
use Rattle.std.proofs.Common.{◌≡◌, ℕ, zero, suc, ◌+◌, ◌-◌, ◌<◌, ◌≤◌, List, [], ◌∷◌, ◌++◌, length, take, drop, min, None, refl, sym, ap, ◌∙◌, arith, append_assoc, length-append, length-drop}
use Rattle.std.proofs.Math.Seq.{take-append_seam, drop-append-add}
use Rattle.std.specs.List.{slice_get}
use Rattle.std.proofs.lemmas.Option.{slice_get_cases}
use Rattle.std.proofs.lemmas.List.{take-append-drop, drop-append-le, drop-drop, length-take, take_min}
use Rattle.lists.specs.Fronts.{over}

module _ {T : Type 0} where
  -- at most n items, from the front
  pub front_taken : (n : ℕ) (xs : List T) → take (min (length xs) n) xs ≡ take n xs
  front_taken n xs =
      let turned : min (length xs) n ≡ min n (length xs) = omega arith in
      rw turned (take_min n xs)

  nth_append : (xs ys : List T) (i : ℕ) → i < length xs → slice_get (xs ++ ys) i ≡ slice_get xs i
  nth_append [] ys i h = absurd (omega arith)
  nth_append (x ∷ xs) ys zero h = refl
  nth_append (x ∷ xs) ys (suc i) h = nth_append xs ys i (omega arith)

  pub nth_none : (xs : List T) (i : ℕ) → slice_get xs i ≡ None → length xs ≤ i
  nth_none xs i h = grind (arith, slice_get_cases xs i)

  -- what the one lists, the other lists at the same place
  abbrev pub Front : List T → List T → Type 0
  Front xs ys = (i : ℕ) → i < length xs → (i < length ys) × (slice_get ys i ≡ slice_get xs i)

  pub front_none : (xs : List T) → Front xs xs
  front_none xs i h = (h, refl)

  pub front_append : (xs ys : List T) → Front xs (xs ++ ys)
  front_append xs ys i h = (omega (arith, h, length-append xs ys), nth_append xs ys i h)

  pub length_over : (xs places : List T) → length xs ≤ length places → length (over xs places) ≡ length places
  length_over xs places h = omega (arith, length-append xs (drop (length xs) places), length-drop (length xs) places)

  -- a longer list takes the place of a shorter one
  pub over_over : (xs ys places : List T) → length xs ≤ length ys → over ys (over xs places) ≡ over ys places
  over_over xs ys places h =
      let n = length ys - length xs in
      let e : length ys ≡ length xs + n = omega arith in
      let rest = drop-append-add xs (drop (length xs) places) n in
      ap (λ zs. ys ++ zs) (ap (λ i. drop i (over xs places)) e ∙ rest ∙ drop-drop n (length xs) places ∙ ap (λ i. drop i places) (sym e))

  -- a list at the front of the first places is at the front of all
  pub over_front : (xs places : List T) (used : ℕ) → length xs ≤ used → used ≤ length places → over xs (take used places) ++ drop used places ≡ over xs places
  over_front xs places used h l =
      let fits : length xs ≤ length (take used places) = omega (arith, length-take used places) in
      append_assoc xs (drop (length xs) (take used places)) (drop used places)
      ∙ ap (λ d. xs ++ d) (sym (drop-append-le (length xs) (take used places) (drop used places) fits) ∙ ap (drop (length xs)) (take-append-drop used places))

  -- what lies at the front of a buffer that items were put over
  pub front_over : (items buffer : List T) (n : ℕ) → n ≡ length items → take n (over items buffer) ≡ items
  front_over items buffer n e = ap (λ k. take k (over items buffer)) e ∙ take-append_seam items (drop (length items) buffer)
