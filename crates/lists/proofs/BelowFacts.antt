-- What the tests of all numbers below a bound say.
use Rattle.std.proofs.Common.{◌≡◌, ℕ, ◌<◌, Bool, true, false, Decides, refl}
use Rattle.std.proofs.lemmas.Bool.{false≢true, both_ways}
use Rattle.std.proofs.lemmas.Bool.Decides.{Decides-below_and, Decides-below_or, same_from_decides}
use Rattle.lists.specs.Below.{all_below, any_below}

module _ (p : ℕ → Bool) (n : ℕ) where
  pub all_below_decides : Decides (all_below p n) ((k : ℕ) → k < n → p k ≡ true)
  unfolding all_below
  all_below_decides = Decides-below_and p (λ k. p k ≡ true) (all_below p) (λ k. (λ e. e, λ e. e)) refl (λ _. refl) n

  pub any_below_decides : Decides (any_below p n) ((k : ℕ) × (k < n) × (p k ≡ true))
  unfolding any_below
  any_below_decides = Decides-below_or p (λ k. p k ≡ true) (any_below p) (λ k. (λ e. e, λ e. e)) refl (λ _. refl) n

  pub any_below_fails : ((k : ℕ) → k < n → p k ≡ false) → false ≡ any_below p n
  any_below_fails h = same_from_decides false (any_below p n) ((λ t. absurd (false≢true t)), (λ f. absurd (both_ways (p f.0) (h f.0 f.1) f.2))) any_below_decides
