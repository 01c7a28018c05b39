-- The lane model, which examples/lane.hex spells: a load is to reach lane 2 and dock 2, and each of the two last steps undoes the other.
use Rattle.std.specs.Prelude.{ℕ, List, [], ◌∷◌, codes}
use Rattle.model.specs.declared.row.Row.{Row}
use Rattle.model.specs.declared.moves.Move.{Move}
use Rattle.model.specs.declared.variable.Variable.{Variable}
use Rattle.model.specs.Records.{ModelRecord, record_of}
use Rattle.detectors.specs.WorkedModels.{row_giving, LANE, DOCK}
use Rattle.walk.specs.declared.walked.Walked.{Walked}
use Rattle.walk.specs.Walks.{first, came}
use Rattle.worked.specs.Spelling.{variable_of, move_of}

-- the row that gives the lane alone
abbrev pub lane : ℕ → Row
lane n = row_giving ((LANE, n) ∷ [])

-- the row that gives the dock alone
abbrev pub dock : ℕ → Row
dock n = row_giving ((DOCK, n) ∷ [])

-- the lane, and then the dock
abbrev pub position : ℕ → ℕ → Row
position l d = row_giving ((LANE, l) ∷ (DOCK, d) ∷ [])

abbrev pub lane_and_dock : List Variable
lane_and_dock = variable_of (codes "LANE    ") 3 ∷ variable_of (codes "DOCK    ") 3 ∷ []

abbrev pub lane_up_1 : Move
lane_up_1 = move_of (codes "lane-up1") ((LANE, 0) ∷ []) ((LANE, 1) ∷ [])

abbrev pub lane_up_2 : Move
lane_up_2 = move_of (codes "lane-up2") ((LANE, 1) ∷ []) ((LANE, 2) ∷ (DOCK, 0) ∷ [])

abbrev pub dock_up_1 : Move
dock_up_1 = move_of (codes "dock-up1") ((DOCK, 0) ∷ []) ((DOCK, 1) ∷ [])

abbrev pub dock_up_2 : Move
dock_up_2 = move_of (codes "dock-up2") ((DOCK, 1) ∷ []) ((DOCK, 2) ∷ (LANE, 0) ∷ [])

abbrev pub lane_model : ModelRecord
lane_model = record_of lane_and_dock (lane_up_1 ∷ lane_up_2 ∷ dock_up_1 ∷ dock_up_2 ∷ []) (position 0 0) (position 2 2)

-- each value alone, first those of the lane
abbrev pub six_values : List Row
six_values = lane 0 ∷ lane 1 ∷ lane 2 ∷ dock 0 ∷ dock 1 ∷ dock 2 ∷ []

-- those that disagree with the goal
abbrev pub four_values : List Row
four_values = lane 0 ∷ lane 1 ∷ dock 0 ∷ dock 1 ∷ []

-- these as they are written: four bytes for each row, and the one that offers them
abbrev pub four_written : List ℕ
four_written = 0x52 ∷ 0 ∷ 0 ∷ 0x4e ∷ 0x52 ∷ 0 ∷ 1 ∷ 0x4e ∷ 0x52 ∷ 1 ∷ 0 ∷ 0x4e ∷ 0x52 ∷ 1 ∷ 1 ∷ 0x4e ∷ 0x4f ∷ []

-- what a walk from the start lists: each state with the place and the move that it came from
abbrev pub eight_listed : List Walked
eight_listed =
    first (position 0 0)
    ∷ came (position 1 0) 0 0
    ∷ came (position 0 1) 0 2
    ∷ came (position 2 0) 1 1
    ∷ came (position 1 1) 1 2
    ∷ came (position 0 2) 2 3
    ∷ came (position 2 1) 3 2
    ∷ came (position 1 2) 5 0
    ∷ []
