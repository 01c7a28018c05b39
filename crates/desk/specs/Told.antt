-- What the answers of the code stand for.
use Rattle.std.specs.Prelude.{ℕ, List, Ok, Err, Result}
use Rattle.sheet.specs.Commands.{commands_from}
use Rattle.model.specs.Drafts.{recorded}
use Rattle.detector.specs.Laws.{Lawful}
use Rattle.detectors.specs.declared.shipped.Shipped.{Shipped}
use Rattle.detectors.specs.Shipping.{shipped_model, shipped_dead, detector_told, MeansWhatIsTold, ShippedDecides}
use Rattle.desk.specs.declared.opening.Stop.{Stop}
use Rattle.desk.specs.declared.opening.Opening.{Opening}
use Rattle.desk.specs.declared.opening.Opening.TheVariants.{Unsealed, Unchosen, Orders}
use Rattle.desk.specs.declared.model_part.SealedAt.{SealedAt}
use Rattle.desk.specs.ModelPart.{ModelEnd, stopped, sealed}
use Rattle.desk.specs.Openings.{Opened, unsealed, unchosen, orders}

abbrev pub model_part_told : List ℕ → Result SealedAt Stop → ModelEnd
model_part_told sheet (Ok s) = sealed (recorded s.model) (commands_from sheet s.next)
model_part_told sheet (Err stop) = stopped stop

abbrev pub opening_told : Opening → Opened
opening_told (Unsealed stop) = unsealed stop
opening_told (Unchosen m stop) = unchosen (recorded m) stop
opening_told (Orders s place) = orders (shipped_model s) (detector_told s) place

-- what holds of the detector of an opening, where one is made
abbrev pub OfTheDetector : (Shipped → Type 0) → Opening → Type 0
OfTheDetector P (Unsealed stop) = Unit {0}
OfTheDetector P (Unchosen m stop) = Unit {0}
OfTheDetector P (Orders s place) = P s

-- it has the dead set of the kind and the operands by which it is told
abbrev pub DetectorMeansWhatIsTold : Opening → Type 0
DetectorMeansWhatIsTold = OfTheDetector MeansWhatIsTold

-- the rows that it calls dead are what is said of its kind
abbrev pub DetectorDecides : Opening → Type 0
DetectorDecides = OfTheDetector ShippedDecides

-- it keeps the two laws
abbrev pub DetectorIsLawful : Opening → Type 0
DetectorIsLawful = OfTheDetector (λ s. Lawful (shipped_model s) (shipped_dead s))
