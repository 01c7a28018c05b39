-- One item more of a list that is searched.
use Rattle.std.proofs.Common.{◌≡◌, ℕ, ◌+◌, ◌<◌, ◌≤◌, Bool, true, false, cond, List, length, drop, get_or, Some, None, Option, sym, ◌∙◌}
use Rattle.std.proofs.lemmas.List.{drop_more, drop_all}
use Rattle.lists.specs.Searches.{first_failing, or_later, first_failing_pair}

-- a search of a list from the place i on, of which the whole is known
module _ {X : Type 0} (test : X → Bool) (xs : List X) (i : ℕ) (whole : Option ℕ) (left : first_failing test i (drop i xs) ≡ whole) where
  module _ (x : X) (within : i < length xs) (read : x ≡ get_or xs i x) where
    more : first_failing test i (drop i xs) ≡ cond (test x) (first_failing test (i + 1) (drop (i + 1) xs)) (Some i)
    unfolding first_failing
    more = rw (drop_more xs i x within, sym read)

    pub failing_found : test x ≡ false → Some i ≡ whole
    failing_found fails = sym (rw fails at more) ∙ left

    pub failing_passed : test x ≡ true → first_failing test (i + 1) (drop (i + 1) xs) ≡ whole
    failing_passed passes = sym (rw passes at more) ∙ left

  pub failing_ended : length xs ≤ i → None ≡ whole
  unfolding first_failing
  failing_ended h = rw (drop_all i xs h) at left

module _ {X Y : Type 0} (test : X → Y → Bool) (ys : List Y) (xs : List X) (i : ℕ) (whole : Option (ℕ × ℕ)) (left : first_failing_pair test ys i (drop i xs) ≡ whole) where
  module _ (x : X) (within : i < length xs) (read : x ≡ get_or xs i x) where
    pair_more : first_failing_pair test ys i (drop i xs) ≡ or_later i (first_failing (test x) 0 ys) (first_failing_pair test ys (i + 1) (drop (i + 1) xs))
    unfolding first_failing_pair
    pair_more = rw (drop_more xs i x within, sym read)

    pub pair_found : (k : ℕ) → Some k ≡ first_failing (test x) 0 ys → Some (i, k) ≡ whole
    pair_found k found = sym (rw (sym found) at pair_more) ∙ left

    pub pair_passed : None ≡ first_failing (test x) 0 ys → first_failing_pair test ys (i + 1) (drop (i + 1) xs) ≡ whole
    pair_passed none = sym (rw (sym none) at pair_more) ∙ left

  pub pair_ended : length xs ≤ i → None ≡ whole
  unfolding first_failing_pair
  pair_ended h = rw (drop_all i xs h) at left
