-- A number has one pair of digits in a base.
use Rattle.std.specs.Prelude.{◌≡◌, ℕ, ◌+◌, ◌*◌, ◌/◌, ◌%◌, ◌<◌}
use Rattle.std.proofs.Common.{sym, ap, ◌∙◌}
use Rattle.std.proofs.lemmas.Nat.{div-mul-add, mod-mul-add}

pub digits : (a b c d base : ℕ) → b < base → d < base → a * base + b ≡ c * base + d → (a ≡ c) × (b ≡ d)
digits a b c d base p q e = (
  sym (div-mul-add a base b p) ∙ ap (λ n. n / base) e ∙ div-mul-add c base d q,
  sym (mod-mul-add a base b p) ∙ ap (λ n. n % base) e ∙ mod-mul-add c base d q,
)
