-- A test that decides equality is an equivalence.
use Rattle.std.proofs.Common.{◌≡◌, Bool, true, subst}
use Rattle.std.specs.Cmp.{IsEquivalence, decided}

pub from_equality : {T : Type 0} (same : T → T → Bool) → ((x : T) → same x x ≡ true) → ((x y : T) → same x y ≡ true → x ≡ y) → IsEquivalence same
from_equality same self equal = decided same (λ x y. (equal x y, λ e. subst (λ z. same x z ≡ true) e (self x)))
