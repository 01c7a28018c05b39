-- The operands of a pattern: one to three variables of the model, rising, whose sizes multiply to at most 512.
use Rattle.std.specs.Prelude.{ℕ, ◌+◌, ◌*◌, Bool, false, cond, List, [], ◌∷◌, Some, None, Ok, Err, Option, Result, ◌==◌, nat_le, nat_lt}
use Rattle.refusal.specs.declared.Refusal.{Refusal}
use Rattle.refusal.specs.declared.Refusal.TheVariants.{WrongOperands}
use Rattle.model.specs.declared.variable.Variable.{Variable}
use Rattle.model.specs.Limits.{size_of}
use Rattle.std.specs.List.{list_all}
use Rattle.detectors.specs.declared.pattern.variables.Variables.{Variables}

-- the operand 255 gives no variable
abbrev pub none_given : ℕ → Bool
none_given v = v == 0xff

-- the size of the variable v of the model, where v is at least `lowest`
abbrev pub size_from : List Variable → ℕ → ℕ → Option ℕ
size_from vs lowest v = cond (nat_lt v lowest) None (size_of vs v)

abbrev pub times : Option ℕ → Option ℕ → Option ℕ
times None b = None
times (Some a) None = None
times (Some a) (Some b) = Some (a * b)

-- The product of the sizes of the variables that the operands give. They rise, from `lowest` on, and none is given behind one
-- that is not.
abbrev pub further_product : List Variable → ℕ → List ℕ → Option ℕ
further_product vs lowest [] = Some 1
further_product vs lowest (v ∷ rest) = cond (none_given v) (cond (list_all none_given rest) (Some 1) None) (times (size_from vs lowest v) (further_product vs (v + 1) rest))

-- the same, where the first operand has to give one
abbrev pub pattern_product : List Variable → ℕ → List ℕ → Option ℕ
pattern_product vs first rest = times (size_from vs 0 first) (further_product vs (first + 1) rest)

-- the product of the sizes is at most 512
abbrev pub small_enough : Option ℕ → Bool
small_enough None = false
small_enough (Some product) = nat_le product 512

-- the variable that an operand gives, if it gives one
abbrev pub if_given : ℕ → Option ℕ
if_given v = cond (none_given v) None (Some v)

-- the operand that gives a variable, or 255 for none
abbrev pub operand_of : Option ℕ → ℕ
operand_of None = 0xff
operand_of (Some v) = v

-- the operands that give the variables
abbrev pub operands_of : Variables → List ℕ
operands_of x = x.first ∷ operand_of x.second ∷ operand_of x.third ∷ []

-- the variables that the operands give
abbrev pub variables_of : ℕ → ℕ → ℕ → Variables
variables_of first second third = record { first = first; second = if_given second; third = if_given third }

-- the variables of the pattern, or the refusal of the operands
abbrev pub pattern_answer : List Variable → ℕ → ℕ → ℕ → Result Variables Refusal
pattern_answer vs first second third =
    cond (small_enough (pattern_product vs first (second ∷ third ∷ []))) (Ok (variables_of first second third)) (Err WrongOperands)
