-- The detectors that ship: what each means, and which is made of a kind and its operands.
use Rattle.std.specs.Prelude.{◌≡◌, ℕ, Bool, false, cond, [], ◌∷◌, Ok, Err, Result, ◌==◌, slice_index}
use Rattle.refusal.specs.declared.Refusal.{Refusal}
use Rattle.model.specs.declared.row.Row.{Row}
use Rattle.model.specs.Drafts.{recorded}
use Rattle.model.specs.Records.{ModelRecord}
use Rattle.detector.specs.Laws.{Lawful}
use Rattle.detectors.specs.declared.bare.Bare.{Bare as BareDetector}
use Rattle.detectors.specs.declared.shipped.Shipped.{Shipped}
use Rattle.detectors.specs.declared.shipped.Shipped.TheVariants.{Bare, Relaxed, Pattern}
use Rattle.detectors.specs.declared.unmade.Unmade.{Unmade}
use Rattle.detectors.specs.Choosing.{Chosen}
use Rattle.detectors.specs.Closure.{relaxed_dead}
use Rattle.detectors.specs.ReachedFacts.{RelaxedDecides}
use Rattle.detectors.specs.RelaxedMeaning.{relaxed_model}
use Rattle.detectors.specs.Operands.{operands_of, variables_of}
use Rattle.detectors.specs.PatternMeaning.{pattern_dead, PatternDecides}
use Rattle.detectors.specs.Patterns.{pattern_model, pattern_variables}

-- the record of the model that a bare detector carries
abbrev pub bare_model : BareDetector → ModelRecord
bare_model detector = recorded detector.model

-- no row is dead
abbrev pub bare_dead : ModelRecord → Row → Bool
bare_dead d row = false

-- the model of whichever detector it is
abbrev pub shipped_model : Shipped → ModelRecord
shipped_model (Bare detector) = bare_model detector
shipped_model (Relaxed detector) = relaxed_model detector
shipped_model (Pattern detector) = pattern_model detector

-- and its dead set
abbrev pub shipped_dead : Shipped → Row → Bool
shipped_dead (Bare detector) row = bare_dead (bare_model detector) row
shipped_dead (Relaxed detector) row = relaxed_dead (relaxed_model detector) row
shipped_dead (Pattern detector) row = pattern_dead (pattern_model detector) (pattern_variables detector) row

-- whoever asks whether a detector of this crate keeps the two laws: each does
unfoldable pub EveryShippedDetectorIsLawful : Type 0
EveryShippedDetectorIsLawful = (s : Shipped) → Lawful (shipped_model s) (shipped_dead s)

-- what is said of the rows that it calls dead, in the words of its kind
abbrev pub ShippedDecides : Shipped → Type 0
ShippedDecides (Bare detector) = (row : Row) → bare_dead (bare_model detector) row ≡ false
ShippedDecides (Relaxed detector) = RelaxedDecides (relaxed_model detector)
ShippedDecides (Pattern detector) = PatternDecides (pattern_model detector) (pattern_variables detector)

-- so of every detector of this crate
unfoldable pub EveryShippedDetectorDecides : Type 0
EveryShippedDetectorDecides = (s : Shipped) → ShippedDecides s

-- the kind of a detector and its operands
abbrev pub detector_told : Shipped → Chosen
detector_told (Bare detector) = (0, 0xff ∷ 0xff ∷ 0xff ∷ [])
detector_told (Relaxed detector) = (1, 0xff ∷ 0xff ∷ 0xff ∷ [])
detector_told (Pattern detector) = (2, operands_of (pattern_variables detector))

-- the dead set of a kind with its operands
abbrev pub kind_dead : ModelRecord → ℕ → ℕ → ℕ → ℕ → Row → Bool
kind_dead d kind first second third row =
    cond (kind == 0) (bare_dead d row) (cond (kind == 1) (relaxed_dead d row) (pattern_dead d (variables_of first second third) row))

-- what came of making a detector
abbrev pub made_told : Result Shipped Unmade → Result Chosen Refusal
made_told (Ok s) = Ok (detector_told s)
made_told (Err u) = Err u.refusal

-- the record of the model that the detector carries, or that is given back
abbrev pub model_told : Result Shipped Unmade → ModelRecord
model_told (Ok s) = shipped_model s
model_told (Err u) = recorded u.model

-- the dead set of a detector that is told by its kind and operands
abbrev pub told_dead : ModelRecord → Chosen → Row → Bool
told_dead d detector row = kind_dead d detector.0 (slice_index detector.1 0) (slice_index detector.1 1) (slice_index detector.1 2) row

-- the detector has the dead set of the kind and the operands by which it is told
abbrev pub MeansWhatIsTold : Shipped → Type 0
MeansWhatIsTold s = (row : Row) → shipped_dead s row ≡ told_dead (shipped_model s) (detector_told s) row

-- so has one that is made
abbrev pub MadeMeansWhatIsTold : Result Shipped Unmade → Type 0
MadeMeansWhatIsTold (Ok s) = MeansWhatIsTold s
MadeMeansWhatIsTold (Err u) = Unit {0}
