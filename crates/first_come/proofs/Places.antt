-- The place of an item is where std's `position` finds it.
use Rattle.std.proofs.Common.{◌≡◌, suc, ◌+◌, Bool, cond, nat_lt, List, [], ◌∷◌, length, Some, None, refl, ap, arith}
use Rattle.std.specs.List.{position, position_or_len}
use Rattle.std.proofs.lemmas.Bool.Decides.{nat_tests}
use Rattle.std.proofs.lemmas.List.Recursion.{is_position_or_len}
use Rattle.first_come.specs.Arrivals.{has, place_of, found_at}

module _ {T : Type 0} (same : T → T → Bool) where
  has_within : (xs : List T) (x : T) → has same xs x ≡ nat_lt (place_of same xs x) (length xs)
  has_within [] x = refl
  has_within (y ∷ ys) x = grind (arith, nat_tests, has_within ys x)

  place_is : (xs : List T) (x : T) → place_of same xs x ≡ position_or_len (λ y. same y x) xs
  place_is xs x =
      is_position_or_len (λ l. place_of same l x) (λ y. same y x) refl
      (λ y ys. let one : suc (place_of same ys x) ≡ 1 + place_of same ys x = omega arith in ap (cond (same y x) 0) one) xs

  pub found_at_position : (xs : List T) (x : T) → found_at same xs x ≡ position (λ listed. same listed x) xs
  found_at_position xs x = rw (has_within xs x) (ap (λ n. cond (nat_lt n (length xs)) (Some n) None) (place_is xs x))
