-- Which detector a kind and its operands choose.
use Rattle.std.specs.Prelude.{ℕ, Bool, cond, List, ◌∷◌, [], Ok, Err, Result, ◌==◌, nat_lt}
use Rattle.std.specs.List.{list_all}
use Rattle.refusal.specs.declared.Refusal.{Refusal}
use Rattle.refusal.specs.declared.Refusal.TheVariants.{UnknownKind, WrongOperands}
use Rattle.model.specs.declared.variable.Variable.{Variable}
use Rattle.detectors.specs.declared.kind.Kind.{Kind}
use Rattle.detectors.specs.declared.kind.Kind.TheVariants.{Bare, Relaxed, Pattern}
use Rattle.detectors.specs.Operands.{none_given, pattern_product, small_enough}

-- the kind that a number stands for
abbrev pub kind_of : ℕ → Result Kind Refusal
kind_of n =
    cond {A = Result Kind Refusal} (n == 0) (Ok Bare)
    (cond {A = Result Kind Refusal} (n == 1) (Ok Relaxed)
    (cond {A = Result Kind Refusal} (n == 2) (Ok Pattern) (Err UnknownKind)))

-- the number of a kind
abbrev pub kind_number : Kind → ℕ
kind_number Bare = 0
kind_number Relaxed = 1
kind_number Pattern = 2

-- a detector's kind and its three operands
abbrev pub Chosen : Type 0
Chosen = ℕ × List ℕ

-- the bare and the relaxed detector take no variable, a pattern takes one to three
abbrev pub operands_fit : List Variable → ℕ → ℕ → List ℕ → Bool
operands_fit vs kind first rest = cond (kind == 2) (small_enough (pattern_product vs first rest)) (list_all none_given (first ∷ rest))

-- the detector that is chosen, or why none is: kinds above 2 are refused, and then operands that do not fit
abbrev pub kind_answer : List Variable → ℕ → ℕ → ℕ → ℕ → Result Chosen Refusal
kind_answer vs kind first second third =
    cond {A = Result Chosen Refusal} (nat_lt 2 kind) (Err UnknownKind)
    (cond {A = Result Chosen Refusal} (operands_fit vs kind first (second ∷ third ∷ [])) (Ok (kind, first ∷ second ∷ third ∷ [])) (Err WrongOperands))
