-- A first-come list only grows, and one that has not grown is as it was.
use Rattle.std.proofs.Common.{◌≡◌, ◌≤◌, Bool, List, [], ◌∷◌, length, refl, ◌∙◌, arith}
use Rattle.std.proofs.lemmas.List.{length-set}
use Rattle.std.proofs.lemmas.Bool.{ltb-true}
use Rattle.first_come.specs.Arrivals.{Kept, arrived, has, keep, keep_all}
use Rattle.first_come.proofs.Arrivals.{put_cases}

pub record Grows {T : Type 0} (k n : Kept T) : Type 0 where
  pub long : length n.places ≡ length k.places
  pub more : k.len ≤ n.len
  pub fits : k.len ≤ length k.places → n.len ≤ length n.places
  pub idle : n.len ≡ k.len → n ≡ k

module _ {T : Type 0} where
  pub grows_none : (k : Kept T) → Grows k k
  grows_none k = record { long = refl; more = omega arith; fits = λ h. h; idle = λ _. refl }

  pub grows_on : (k n p : Kept T) → Grows k n → Grows n p → Grows k p
  grows_on k n p a b = record {
    long = b.long ∙ a.long;
    more = omega (arith, a.more, b.more);
    fits = λ h. b.fits (a.fits h);
    idle = λ e. b.idle (omega (arith, a.more, b.more, e)) ∙ a.idle (omega (arith, a.more, b.more, e));
  }

  pub grows_keep : (same : T → T → Bool) (k : Kept T) (x : T) → Grows k (keep same k x)
  grows_keep same k x =
      put_cases k x (Grows k) (has same (arrived k) x) (λ _. grows_none k)
      (λ _ room. record {
        long = length-set k.places k.len x;
        more = omega arith;
        fits = λ _. rw length-set (omega (arith, ltb-true));
        idle = λ e. absurd (omega (arith, e));
      })
      (λ _ _. grows_none k)

  pub grows_keep_all : (same : T → T → Bool) (k : Kept T) (xs : List T) → Grows k (keep_all same k xs)
  grows_keep_all same k [] = grows_none k
  grows_keep_all same k (x ∷ xs) = grows_on k (keep same k x) _ (grows_keep same k x) (grows_keep_all same (keep same k x) xs)
