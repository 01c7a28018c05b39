-- The lowest place in a list of what fails a test.
use Rattle.std.specs.Prelude.{ℕ, ◌+◌, Bool, cond, List, [], ◌∷◌, Some, None, Option}

-- the lowest place, counted from n, of an item that fails the test
unfoldable pub first_failing : {X : Type 0} → (X → Bool) → ℕ → List X → Option ℕ
first_failing test n [] = None
first_failing test n (x ∷ xs) = cond (test x) (first_failing test (n + 1) xs) (Some n)

-- the place n with one that was found for it, else what is found later
abbrev pub or_later : ℕ → Option ℕ → Option (ℕ × ℕ) → Option (ℕ × ℕ)
or_later n (Some k) later = Some (n, k)
or_later n None later = later

-- the lowest place, counted from n, of an item that fails the test with one of the ys, and the lowest place of those
unfoldable pub first_failing_pair : {X Y : Type 0} → (X → Y → Bool) → List Y → ℕ → List X → Option (ℕ × ℕ)
first_failing_pair test ys n [] = None
first_failing_pair test ys n (x ∷ xs) = or_later n (first_failing (test x) 0 ys) (first_failing_pair test ys (n + 1) xs)
