-- The detector part of a sheet, by the command that stands behind the model.
use Rattle.std.proofs.Common.{◌≡◌, ℕ, List, length, Some, None, Result, sym, ap, ◌∙◌}
use Rattle.refusal.specs.declared.Refusal.{Refusal}
use Rattle.refusal.specs.declared.Refusal.TheVariants.{SheetEnds}
use Rattle.sheet.specs.Commands.{Item, item_found, commands_from}
use Rattle.sheet.proofs.CommandList.{commands_none, commands_some}
use Rattle.model.specs.Records.{ModelRecord}
use Rattle.detectors.specs.Choosing.{Chosen}
use Rattle.desk.specs.DetectorPart.{choice_answer, chosen_at, detector_part}
use Rattle.desk.specs.ModelPart.{stop_at}
use Rattle.desk.specs.Openings.{Opened, unchosen, behind_model}

-- a sheet with the model d, behind which the commands from a place on stand
module _ (sheet : List ℕ) (place : ℕ) (d : ModelRecord) where
  abbrev opened : Opened
  opened = behind_model d (detector_part (length sheet) d.variables (commands_from sheet place))

  pub opened_none : None ≡ item_found sheet place → unchosen d (stop_at (length sheet) place SheetEnds) ≡ opened
  opened_none is = sym (ap (λ items. behind_model d (detector_part (length sheet) d.variables items)) (commands_none sheet place is))

  -- e is the model of what came of the command, which is r
  pub opened_some : (i : Item) → Some i ≡ item_found sheet place → (e : ModelRecord) → e ≡ d → (r : Result Chosen Refusal) → r ≡ choice_answer d.variables i.said → behind_model e (chosen_at (length sheet) i r) ≡ opened
  opened_some i is e same r said =
      (λ j. behind_model (same j) (chosen_at (length sheet) i (said j)))
      ∙ sym (ap (λ items. behind_model d (detector_part (length sheet) d.variables items)) (commands_some sheet place i is))
