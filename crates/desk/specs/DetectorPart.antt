-- The detector part of a sheet: the command behind the model.
use Rattle.std.specs.Prelude.{ℕ, cond, List, [], ◌∷◌, Ok, Err, Result, ◌==◌, slice_index}
use Rattle.refusal.specs.declared.Refusal.{Refusal}
use Rattle.refusal.specs.declared.Refusal.TheVariants.{SheetEnds, UnknownCommand, OutOfTurn}
use Rattle.sheet.specs.Reading.{Told}
use Rattle.sheet.specs.Commands.{Item}
use Rattle.model.specs.declared.variable.Variable.{Variable}
use Rattle.detectors.specs.Choosing.{Chosen, kind_answer}
use Rattle.desk.specs.declared.opening.Stop.{Stop}
use Rattle.desk.specs.ModelPart.{stop_at}

-- the command behind the one that sealed the model
abbrev pub choice_answer : List Variable → Told → Result Chosen Refusal
choice_answer vs said =
    cond {A = Result Chosen Refusal} (said.0 == 2) (Err UnknownCommand)
    (cond {A = Result Chosen Refusal} (said.0 == 1) (Err SheetEnds)
    (cond {A = Result Chosen Refusal} (said.0 == 0x44) (kind_answer vs (slice_index said.1 0) (slice_index said.1 1) (slice_index said.1 2) (slice_index said.1 3))
    (Err OutOfTurn)))

-- the detector, with the place of what follows; or the refusal
abbrev pub chosen_at : ℕ → Item → Result Chosen Refusal → Result (Chosen × ℕ) Stop
chosen_at end i (Ok detector) = Ok (detector, i.next)
chosen_at end i (Err r) = Err (stop_at end i.place r)

abbrev pub detector_part : ℕ → List Variable → List Item → Result (Chosen × ℕ) Stop
detector_part end vs [] = Err (stop_at end end SheetEnds)
detector_part end vs (i ∷ is) = chosen_at end i (choice_answer vs i.said)
