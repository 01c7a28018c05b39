-- How a sheet opens, by its parts.
use Rattle.std.proofs.Common.{◌≡◌, ℕ, ◌<◌, ◌≤◌, List, length, ap}
use Rattle.std.proofs.lemmas.Bool.{cond_below, cond_above}
use Rattle.refusal.specs.declared.Refusal.TheVariants.{TooMany}
use Rattle.sheet.specs.Commands.{commands}
use Rattle.model.specs.Records.{blank}
use Rattle.model.proofs.SealedModel.{model_sealed}
use Rattle.detectors.specs.ShippedRows.{shipped_sealed}
use Rattle.detectors.specs.Shipping.{EveryShippedDetectorIsLawful, EveryShippedDetectorDecides}
use Rattle.detectors.proofs.ShippedLaws.{shipped_lawful, shipped_decides}
use Rattle.desk.specs.declared.opening.Opening.{Opening}
use Rattle.desk.specs.declared.opening.Opening.TheVariants.{Unsealed, Unchosen, Orders}
use Rattle.desk.specs.InOrder.{ModelIsSealed}
use Rattle.desk.specs.Told.{opening_told, DetectorIsLawful, DetectorDecides}
use Rattle.desk.specs.Steps.{naming}
use Rattle.desk.specs.ModelPart.{ModelEnd, model_part}
use Rattle.desk.specs.Openings.{unsealed, opened_by, opening}

module _ (sheet : List ℕ) where
  pub too_long : 65536 < length sheet → unsealed (record { refusal = TooMany; place = 65536 }) ≡ opening sheet
  unfolding opening
  too_long long = cond_below 65536 (length sheet) _ _ long

  pub opens_by : length sheet ≤ 65536 → (m : ModelEnd) → m ≡ model_part (length sheet) naming blank (commands sheet) → opened_by (length sheet) m ≡ opening sheet
  unfolding opening
  opens_by short m is = cond_above 65536 (length sheet) _ _ _ short (ap (opened_by (length sheet)) is)

-- the model of an opening is sealed by its type
pub every_opening_sealed : (o : Opening) → ModelIsSealed (opening_told o)
every_opening_sealed (Unsealed stop) = tt
every_opening_sealed (Unchosen m stop) = model_sealed m
every_opening_sealed (Orders s place) = shipped_sealed s

-- and so its detector keeps the two laws
pub every_detector_lawful : (o : Opening) → DetectorIsLawful o
unfolding EveryShippedDetectorIsLawful
every_detector_lawful (Unsealed stop) = tt
every_detector_lawful (Unchosen m stop) = tt
every_detector_lawful (Orders s place) = shipped_lawful s

-- and calls dead what is said of its kind
pub every_detector_decides : (o : Opening) → DetectorDecides o
unfolding EveryShippedDetectorDecides
every_detector_decides (Unsealed stop) = tt
every_detector_decides (Unchosen m stop) = tt
every_detector_decides (Orders s place) = shipped_decides s
