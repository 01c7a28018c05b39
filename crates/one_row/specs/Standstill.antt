-- A row from which no move leads away, and the rows that contain it.
use Rattle.std.specs.Prelude.{Bool, not, ◌&&◌, ◌||◌, List}
use Rattle.std.specs.List.{list_all}
use Rattle.model.specs.declared.row.Row.{Row}
use Rattle.model.specs.declared.moves.Move.{Move}
use Rattle.model.specs.Rows.{contained, disagree}
use Rattle.model.specs.Moves.{applicable, progression}
use Rattle.model.specs.Records.{ModelRecord, row_of_model}

-- the move is not applicable to the row, or leads to a row that contains it
abbrev pub stays : Row → Move → Bool
stays r m = not (applicable m r) || contained r (progression m r)

-- every move stays
abbrev pub all_stay : List Move → Row → Bool
all_stay ms r = list_all (stays r) ms

-- the row disagrees with the goal, and every move stays
abbrev pub stands_still : ModelRecord → Row → Bool
stands_still d r = disagree r d.goal && all_stay d.moves r

-- the dead set: the rows of the model that contain the row
abbrev pub one_row_dead : ModelRecord → Row → Row → Bool
one_row_dead d r t = row_of_model d t && contained r t
