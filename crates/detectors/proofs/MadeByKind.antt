-- A pattern is what its operands say.
use Rattle.std.proofs.Common.{◌≡◌, ◌==◌, ℕ, Bool, true, false, cond, List, [], ◌∷◌, Some, None, Ok, Err, Result, sym, refl, ap, ◌∙◌, arith}
use Rattle.std.proofs.lemmas.Bool.{cond_both, eqb-true}
use Rattle.refusal.specs.declared.Refusal.{Refusal}
use Rattle.refusal.specs.declared.Refusal.TheVariants.{WrongOperands}
use Rattle.model.specs.declared.variable.Variable.{Variable}
use Rattle.detectors.specs.declared.pattern.Pattern.{Pattern as PatternDetector}
use Rattle.detectors.specs.declared.pattern.variables.Variables.{Variables}
use Rattle.detectors.specs.declared.shipped.Shipped.TheVariants.{Pattern}
use Rattle.detectors.specs.declared.kind.Kind.{Kind}
use Rattle.detectors.specs.Choosing.{Chosen, kind_of, kind_number, kind_answer}
use Rattle.detectors.specs.Operands.{none_given, pattern_product, small_enough, if_given, operand_of, operands_of, variables_of, pattern_answer}
use Rattle.detectors.specs.PatternMeaning.{pattern_dead}
use Rattle.detectors.specs.Patterns.{pattern_model, pattern_variables}
use Rattle.detectors.specs.Shipping.{told_dead, MeansWhatIsTold}

-- an operand is told again as it was given
told_again : (v : ℕ) → operand_of (if_given v) ≡ v
told_again v = cond_both (none_given v) None (Some v) (λ o. operand_of o ≡ v) (λ e. sym (eqb-true v 0xff e)) (λ _. refl)

-- a kind that a number stands for has that number
pub number_of_kind : (n : ℕ) (kind : Kind) → Ok kind ≡ kind_of n → kind_number kind ≡ n
number_of_kind n kind =
    cond_both (n == 0) _ _ (λ r. Ok kind ≡ r → kind_number kind ≡ n) (λ zero is. search (is, eqb-true n 0 zero)) (λ _.
    cond_both (n == 1) _ _ (λ r. Ok kind ≡ r → kind_number kind ≡ n) (λ one is. search (is, eqb-true n 1 one)) (λ _.
    cond_both (n == 2) _ _ (λ r. Ok kind ≡ r → kind_number kind ≡ n) (λ two is. search (is, eqb-true n 2 two)) (λ _ never. cc)))

-- the detector that is made of a pattern, or the refusal of its operands
abbrev pub over_told : Result Variables Refusal → Result Chosen Refusal
over_told (Ok x) = Ok (2, operands_of x)
over_told (Err r) = Err r

module _ (vs : List Variable) (first second third : ℕ) where
  abbrev fits : Bool
  fits = small_enough (pattern_product vs first (second ∷ third ∷ []))

  -- a pattern is answered where the product is small enough, with the variables that the operands give
  answered : (x : Variables) (small : Bool) → Ok x ≡ cond {A = Result Variables Refusal} small (Ok (variables_of first second third)) (Err WrongOperands) → (small ≡ true) × (x ≡ variables_of first second third)
  answered x true is = (refl, cc)
  answered x false is = let z : ◌≡◌ {A = ℕ} 0 1 = cc in absurd (omega arith)

  -- and is refused elsewhere
  refused : (r : Refusal) (small : Bool) → Err r ≡ cond {A = Result Variables Refusal} small (Ok (variables_of first second third)) (Err WrongOperands) → Err r ≡ cond {A = Result Chosen Refusal} small (Ok (2, first ∷ second ∷ third ∷ [])) (Err WrongOperands)
  refused r true is = let z : ◌≡◌ {A = ℕ} 0 1 = cc in absurd (omega arith)
  refused r false is = cc

  -- the operands that give the variables are those that were given
  same_operands : (x : Variables) → x ≡ variables_of first second third → operands_of x ≡ first ∷ second ∷ third ∷ []
  same_operands x is = ap operands_of is ∙ (λ i. first ∷ told_again second i ∷ told_again third i ∷ [])

  pub pattern_answered : (over : Result Variables Refusal) → over ≡ pattern_answer vs first second third → over_told over ≡ kind_answer vs 2 first second third
  pattern_answered (Ok x) is =
      let chosen = answered x fits is in
      let taken : ◌≡◌ {A = Result Chosen Refusal} (Ok (2, first ∷ second ∷ third ∷ [])) (kind_answer vs 2 first second third) = rw chosen.0 refl in
      ap {B = Result Chosen Refusal} (λ (l : List ℕ). Ok (2, l)) (same_operands x chosen.1) ∙ taken
  pattern_answered (Err r) is = refused r fits is

  pub pattern_means : (p : PatternDetector) → Ok (pattern_variables p) ≡ pattern_answer vs first second third → MeansWhatIsTold (Pattern p)
  pattern_means p is =
      let chosen = answered (pattern_variables p) fits is in
      λ row. ap (λ x. pattern_dead (pattern_model p) x row) chosen.1 ∙ sym (ap (λ l. told_dead (pattern_model p) (2, l) row) (same_operands (pattern_variables p) chosen.1))
