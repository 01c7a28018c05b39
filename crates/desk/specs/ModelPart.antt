-- The model part of a sheet, over the list of its commands.
use Rattle.std.specs.Prelude.{ℕ, cond, List, [], ◌∷◌, ◌==◌}
use Rattle.refusal.specs.declared.Refusal.{Refusal}
use Rattle.refusal.specs.declared.Refusal.TheVariants.{SheetEnds}
use Rattle.refusal.specs.Numbers.{refusal_number}
use Rattle.sheet.specs.Commands.{Item}
use Rattle.model.specs.Records.{ModelRecord}
use Rattle.desk.specs.declared.opening.Stop.{Stop}
use Rattle.desk.specs.Steps.{Phase, Turned, goes, seals, refuses, step}

-- where a refusal is told: refusal 1 at the sheet's end, any other at the command's first byte
abbrev pub stop_at : ℕ → ℕ → Refusal → Stop
stop_at end place r = record { refusal = r; place = cond (refusal_number r == 1) end place }

-- the refusal; or the model's record and the commands that follow
pub data ModelEnd : Type 0 where
  stopped : Stop → ModelEnd
  sealed : ModelRecord → List Item → ModelEnd

-- what a turn leads to, at a place with the commands that follow
abbrev pub turned_to : (Phase → ModelRecord → ModelEnd) → ℕ → ℕ → List Item → Turned → ModelEnd
turned_to go end place rest (goes p d) = go p d
turned_to go end place rest (seals d) = sealed d rest
turned_to go end place rest (refuses r) = stopped (stop_at end place r)

-- the commands of a sheet of `end` bytes; where they are over, the sheet ends too early
unfoldable pub model_part : ℕ → Phase → ModelRecord → List Item → ModelEnd
model_part end p d [] = stopped (stop_at end end SheetEnds)
model_part end p d (i ∷ is) = turned_to (λ q e. model_part end q e is) end i.place is (step p d i.said)
