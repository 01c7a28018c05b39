-- Every detector that ships keeps the two laws, and calls dead what is said of its kind.
use Rattle.std.proofs.Common.{refl}
use Rattle.std.proofs.lemmas.Bool.{false≢true}
use Rattle.model.specs.Records.{ModelRecord}
use Rattle.model.proofs.SealedModel.{model_sealed}
use Rattle.detector.specs.Laws.{Lawful}
use Rattle.detectors.specs.declared.shipped.Shipped.TheVariants.{Bare, Relaxed, Pattern}
use Rattle.detectors.specs.Shipping.{bare_dead, EveryShippedDetectorIsLawful, EveryShippedDetectorDecides}
use Rattle.detectors.proofs.ReachedDecided.{relaxed_decides}
use Rattle.detectors.proofs.RelaxedLaws.{relaxed_lawful}
use Rattle.detectors.proofs.PatternLaws.{pattern_lawful, pattern_decides}

pub bare_lawful : (d : ModelRecord) → Lawful d (bare_dead d)
bare_lawful d = record { containing_rows_are_dead = λ r t dead. absurd (false≢true dead); dead_states_have_no_plan = λ s state dead. absurd (false≢true dead) }

pub shipped_lawful : EveryShippedDetectorIsLawful
unfolding EveryShippedDetectorIsLawful
shipped_lawful (Bare detector) = bare_lawful _
shipped_lawful (Relaxed detector) = relaxed_lawful _ (model_sealed detector.model)
shipped_lawful (Pattern detector) = pattern_lawful _ _ (model_sealed detector.model) detector.small

pub shipped_decides : EveryShippedDetectorDecides
unfolding EveryShippedDetectorDecides
shipped_decides (Bare detector) = λ row. refl
shipped_decides (Relaxed detector) = relaxed_decides _ (model_sealed detector.model)
shipped_decides (Pattern detector) = pattern_decides _ _ (model_sealed detector.model) detector.small
