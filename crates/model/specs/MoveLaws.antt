-- How moves and containment go together, and what moves make of a state.
use Rattle.std.specs.Prelude.{◌≡◌, ℕ, true, List}
use Rattle.model.specs.declared.row.Row.{Row}
use Rattle.model.specs.declared.moves.Move.{Move}
use Rattle.model.specs.Limits.{move_fits}
use Rattle.model.specs.Moves.{applicable, progression, successor}
use Rattle.model.specs.Records.{ModelRecord, state_of_model, Sealed}
use Rattle.model.specs.Plans.{Leads}
use Rattle.model.specs.Rows.{contained}

-- a move applicable to a row is applicable to every row contained in it
unfoldable pub SmallerRowKeepsMovesApplicable : Type 0
SmallerRowKeepsMovesApplicable = (m : Move) (r t : Row) → contained r t ≡ true → applicable m t ≡ true → applicable m r ≡ true

-- and the progression of the smaller row is contained in that of the larger
unfoldable pub SmallerRowHasSmallerProgression : Type 0
SmallerRowHasSmallerProgression = (m : Move) (r t : Row) → contained r t ≡ true → applicable m t ≡ true → contained (progression m r) (progression m t) ≡ true

-- For a state of a model that contains a row, and a move of the model that is applicable to the state: its progression is the
-- state with the effects written over it, which is a state of the model again and contains the progression of the row.
unfoldable pub ProgressionOfAStateIsItsSuccessor : Type 0
ProgressionOfAStateIsItsSuccessor =
    (d : ModelRecord) (m : Move) (r s : Row)
    → move_fits d.variables m ≡ true → state_of_model d s ≡ true → contained r s ≡ true → applicable m s ≡ true
    → (progression m s ≡ successor m s) × (state_of_model d (progression m s) ≡ true) × (contained (progression m r) (progression m s) ≡ true)

-- In a sealed model, whatever moves lead to from a state is a state; so a plan passes through states only.
unfoldable pub StatesLeadToStates : Type 0
StatesLeadToStates =
    (d : ModelRecord) (ns : List ℕ) (s t : Row)
    → Sealed d → state_of_model d s ≡ true → Leads d s ns t → state_of_model d t ≡ true
