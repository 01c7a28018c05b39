-- The detectors' verdicts on the worked models.
use Rattle.std.specs.Prelude.{◌≡◌, true, false, [], ◌∷◌, Some, None}
use Rattle.detectors.specs.declared.pattern.variables.Variables.{Variables}
use Rattle.detectors.specs.Closure.{relaxed_dead}
use Rattle.detectors.specs.PatternMeaning.{pattern_dead}
use Rattle.detectors.specs.WorkedModels.{row_giving, lane, LANE, DOCK, key, GATE, KEY}

-- The relaxed detector is silent at the start of `lane`, from which each goal fact is reached. Without the key the gate stays
-- shut, and that is dead; where nothing is known of the key it is silent, and so on what is no row of the model.
unfoldable pub WorkedRelaxedVerdicts : Type 0
WorkedRelaxedVerdicts =
    (relaxed_dead lane lane.start ≡ false)
    × (relaxed_dead key (row_giving ((GATE, 0) ∷ (KEY, 0) ∷ [])) ≡ true)
    × (relaxed_dead key (row_giving ((GATE, 0) ∷ [])) ≡ false)
    × (relaxed_dead key (row_giving ((GATE, 2) ∷ (KEY, 0) ∷ [])) ≡ false)

abbrev pub lane_and_dock : Variables
lane_and_dock = record { first = LANE; second = Some DOCK; third = None }

abbrev pub lane_alone : Variables
lane_alone = record { first = LANE; second = None; third = None }

-- Over both variables the start of `lane` is dead, and over the lane alone it is not. A row that leaves the dock open is not
-- dead over both, nor is the goal.
unfoldable pub WorkedPatternVerdicts : Type 0
WorkedPatternVerdicts =
    (pattern_dead lane lane_and_dock lane.start ≡ true)
    × (pattern_dead lane lane_alone lane.start ≡ false)
    × (pattern_dead lane lane_and_dock (row_giving ((LANE, 0) ∷ [])) ≡ false)
    × (pattern_dead lane lane_and_dock lane.goal ≡ false)
