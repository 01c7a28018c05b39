-- Sameness of walked states is an equivalence.
use Rattle.std.specs.Cmp.{IsEquivalence, decided, on_equiv}
use Rattle.model.specs.Rows.{same_row}
use Rattle.model.specs.SameRows.{same_row_decides}
use Rattle.walk.specs.declared.walked.Walked.{Walked}
use Rattle.walk.specs.Sames.{same_state}

pub same_state_equivalence : IsEquivalence same_state
same_state_equivalence = on_equiv (λ (w : Walked). w.state) (decided same_row same_row_decides)
