-- The numbers by which a judgement and a probe are refused.
use Rattle.std.proofs.Common.{◌≡◌, ℕ, zero, suc, ◌+◌, true, List, [], ◌∷◌, length, Some, None, Option, Ok, Err, nat_lt, refl, subst}
use Rattle.std.specs.List.{list_any}
use Rattle.std.specs.Prelude.{◌==◌}
use Rattle.std.proofs.lemmas.Bool.{cond_both}
use Rattle.refusal.specs.declared.Refusal.TheVariants.{OpenEntry}
use Rattle.refusal.specs.Numbers.{refusal_number}
use Rattle.model.specs.declared.row.Row.{Row}
use Rattle.model.specs.declared.variable.Variable.{Variable}
use Rattle.model.specs.Rows.{at}
use Rattle.model.specs.Limits.{complete, size_at}
use Rattle.model.specs.Tables.{Answer}
use Rattle.model.specs.WrongEntries.{value_checked, first_refusal, row_checked}
use Rattle.book.specs.Probes as probes
use Rattle.book.proofs.ProbeCases.{check_cases}

-- a check refuses by these numbers only
abbrev pub RefusedBy : List ℕ → Answer → Type 0
RefusedBy numbers (Ok done) = Unit {0}
RefusedBy numbers (Err why) = list_any (λ n. refusal_number why == n) numbers ≡ true

module _ (vs : List Variable) (r : Row) (more : List ℕ) where
  -- a wrong entry is refused by 6 or 7
  wrong_value : (i : ℕ) (e : Option ℕ) → RefusedBy (6 ∷ 7 ∷ more) (value_checked vs i e)
  wrong_value i None = tt
  wrong_value i (Some v) =
      cond_both (nat_lt i (length vs)) _ _ (RefusedBy (6 ∷ 7 ∷ more))
      (λ _. cond_both (nat_lt v (size_at vs i)) _ _ (RefusedBy (6 ∷ 7 ∷ more)) (λ _. tt) (λ _. refl))
      (λ _. refl)

  first_wrong : (i n : ℕ) → RefusedBy (6 ∷ 7 ∷ more) (first_refusal (λ k. value_checked vs k (at r k)) i n)
  unfolding first_refusal
  first_wrong i zero = tt
  first_wrong i (suc n) =
      check_cases (value_checked vs i (at r i)) (first_refusal (λ k. value_checked vs k (at r k)) (i + 1) n) (RefusedBy (6 ∷ 7 ∷ more))
      (λ why is. subst (RefusedBy (6 ∷ 7 ∷ more)) is (wrong_value i (at r i)))
      (λ _. first_wrong (i + 1) n)

  pub wrong_entry : RefusedBy (6 ∷ 7 ∷ more) (row_checked vs r)
  wrong_entry = first_wrong 0 32

-- and a row that leaves a variable open by 15
pub no_state : (vs : List Variable) (r : Row) → RefusedBy (6 ∷ 7 ∷ 15 ∷ []) (probes.state_checked vs r)
no_state vs r =
    check_cases (row_checked vs r) (probes.given_checked vs r) (RefusedBy (6 ∷ 7 ∷ 15 ∷ []))
    (λ why is. subst (RefusedBy (6 ∷ 7 ∷ 15 ∷ [])) is (wrong_entry vs r (15 ∷ [])))
    (λ _. cond_both (complete vs r) (Ok tt) (Err OpenEntry) (RefusedBy (6 ∷ 7 ∷ 15 ∷ [])) (λ _. tt) (λ _. refl))
