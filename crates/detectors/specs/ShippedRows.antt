-- Whichever detector ships, its model is sealed, and its dead rows are rows of that model.
use Rattle.std.specs.Prelude.{◌≡◌, true}
use Rattle.std.proofs.lemmas.Bool.{and_parts, false≢true}
use Rattle.model.specs.declared.row.Row.{Row}
use Rattle.model.specs.Records.{row_of_model, Sealed}
use Rattle.model.proofs.SealedModel.{model_sealed}
use Rattle.detectors.specs.declared.shipped.Shipped.{Shipped}
use Rattle.detectors.specs.declared.shipped.Shipped.TheVariants.{Bare, Relaxed, Pattern}
use Rattle.detectors.specs.Shipping.{shipped_model, shipped_dead}

pub shipped_sealed : (s : Shipped) → Sealed (shipped_model s)
shipped_sealed (Bare detector) = model_sealed detector.model
shipped_sealed (Relaxed detector) = model_sealed detector.model
shipped_sealed (Pattern detector) = model_sealed detector.model

pub shipped_within : (s : Shipped) (t : Row) → shipped_dead s t ≡ true → row_of_model (shipped_model s) t ≡ true
shipped_within (Bare detector) t dead = absurd (false≢true dead)
shipped_within (Relaxed detector) t dead = (and_parts _ _ dead).0
shipped_within (Pattern detector) t dead = (and_parts _ _ dead).0
