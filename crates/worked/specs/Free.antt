-- The free model, which examples/free.hex spells: as the lane model, but move 1 leaves the dock as it is, so that there is a way to the goal.
use Rattle.std.specs.Prelude.{[], ◌∷◌, codes}
use Rattle.model.specs.declared.moves.Move.{Move}
use Rattle.model.specs.Records.{ModelRecord, record_of}
use Rattle.detectors.specs.WorkedModels.{LANE}
use Rattle.worked.specs.Spelling.{move_of}
use Rattle.worked.specs.Lane.{position, lane_and_dock, lane_up_1, dock_up_1, dock_up_2}

abbrev pub freed_lane_up_2 : Move
freed_lane_up_2 = move_of (codes "lane-up2") ((LANE, 1) ∷ []) ((LANE, 2) ∷ [])

abbrev pub free_model : ModelRecord
free_model = record_of lane_and_dock (lane_up_1 ∷ freed_lane_up_2 ∷ dock_up_1 ∷ dock_up_2 ∷ []) (position 0 0) (position 2 2)
