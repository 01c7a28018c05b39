-- What a detector means, and the two laws: who shows them of a detector makes it one to be trusted.
use Rattle.std.specs.Prelude.{◌≡◌, ℕ, Bool, true, List}
use Rattle.model.specs.declared.row.Row.{Row}
use Rattle.model.specs.Rows.{contained}
use Rattle.model.specs.Records.{ModelRecord, row_of_model, state_of_model}
use Rattle.model.specs.Plans.{Plan}

-- The two laws, of a model d and a dead set.
pub record Lawful (d : ModelRecord) (dead : Row → Bool) : Type 0 where
  -- with a row, the set has every row of the model that contains it
  pub containing_rows_are_dead : (r t : Row) → dead r ≡ true → row_of_model d t ≡ true → contained r t ≡ true → dead t ≡ true
  -- no state in the set has a plan
  pub dead_states_have_no_plan : (s : Row) → state_of_model d s ≡ true → dead s ≡ true → (ns : List ℕ) → Plan d s ns → ⊥

-- the dead set has rows of the model d alone, as that of every detector does
abbrev pub RowsOfTheModelAlone : ModelRecord → (Row → Bool) → Type 0
RowsOfTheModelAlone d dead = (t : Row) → dead t ≡ true → row_of_model d t ≡ true

-- detectors of equal meaning have the same model, and call the same of its rows dead
pub record EqualMeaning (d e : ModelRecord) (dead gone : Row → Bool) : Type 0 where
  pub same_model : d ≡ e
  pub same_dead_rows : (t : Row) → row_of_model d t ≡ true → dead t ≡ gone t

-- so where the one keeps the laws, the other does
unfoldable pub EqualMeaningKeepsTheLaws : Type 0
EqualMeaningKeepsTheLaws = (d e : ModelRecord) (dead gone : Row → Bool) → EqualMeaning d e dead gone → Lawful d dead → Lawful e gone
