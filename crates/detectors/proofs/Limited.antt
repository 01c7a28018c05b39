-- The limits that a sealed model keeps.
use Rattle.std.proofs.Common.{◌≡◌, ℕ, zero, suc, ◌<◌, ◌≤◌, true, ltb, leb, List, [], ◌∷◌, length, ap, ⊎_elim, arith}
use Rattle.std.proofs.lemmas.List.{get_or_past}
use Rattle.std.proofs.lemmas.Bool.{cases_lt, and_parts, leb-true}
use Rattle.model.specs.declared.variable.Variable.{Variable}
use Rattle.model.specs.declared.moves.Move.{Move}
use Rattle.lists.specs.Members.{Among}
use Rattle.lists.proofs.Members.{all_among}
use Rattle.model.specs.Limits.{size_at, size_fits, sizes_fit, no_variable, row_fits, move_fits}
use Rattle.model.specs.Records.{ModelRecord, Sealed}
use Rattle.detectors.specs.declared.relaxed.fact.Fact.{Fact}

-- a variable that has values is one of the model
pub sized_below : (vs : List Variable) (v x : ℕ) → x < size_at vs v → v < length vs
sized_below vs v x h =
    ⊎_elim (λ (l : v < length vs). l) (λ (past : length vs ≤ v). absurd (omega (arith, ap (λ (w : Variable). w.size) (get_or_past vs v no_variable past)))) (cases_lt v (length vs))

pub size_at_most : (vs : List Variable) (v : ℕ) → sizes_fit vs ≡ true → size_at vs v ≤ 16
size_at_most [] v h = omega arith
size_at_most (w ∷ ws) zero h = leb-true w.size 16 (and_parts (ltb 0 w.size) (leb w.size 16) (and_parts (size_fits w.size) _ h).0).1
size_at_most (w ∷ ws) (suc v) h = size_at_most ws v (and_parts (size_fits w.size) _ h).1

-- within the limits of a model
abbrev pub Limited : Fact → Type 0
Limited f = (f.variable < 32) × (f.value < 16)

pub limited : (d : ModelRecord) → Sealed d → (f : Fact) → f.value < size_at d.variables f.variable → Limited f
limited d sealed f below = (
  omega (arith, sealed.at_most_32_variables, sized_below d.variables f.variable f.value below),
  omega (arith, size_at_most d.variables f.variable sealed.sizes_from_1_to_16),
)

-- the conditions and effects of a move of the model have values below the sizes
pub move_limits : (d : ModelRecord) → Sealed d → (m : Move) → Among d.moves m → (row_fits d.variables m.conditions ≡ true) × (row_fits d.variables m.effects ≡ true)
move_limits d sealed m among = and_parts _ _ (all_among (move_fits d.variables) d.moves m sealed.move_values_below_sizes among)
