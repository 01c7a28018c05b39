-- Candidates with their marks.
use Rattle.std.specs.Prelude.{Bool, not, cond, ◌&&◌, ◌||◌, List, Some, None, Option}
use Rattle.std.specs.List.{filter_map, list_any}
use Rattle.model.specs.declared.row.Row.{Row}
use Rattle.model.specs.Rows.{contained, disagree}
use Rattle.model.specs.Records.{ModelRecord}
use Rattle.rules.specs.Rules.{keeps_rule_2}
use Rattle.settling.specs.declared.candidate.Candidate.{Candidate}

-- the row as it enters a settle: marked if it does not disagree with the goal
abbrev pub at_start : Row → Row → Candidate
at_start goal r = record { row = r; marked = not (disagree r goal) }

-- the candidate is unmarked and contained in the row t
abbrev pub covers_unmarked : Row → Candidate → Bool
covers_unmarked t c = not c.marked && contained c.row t

-- one of the candidates is
abbrev pub covered : List Candidate → Row → Bool
covered cs t = list_any (covers_unmarked t) cs

-- the candidate with one reason more for a mark, if there is one
abbrev pub marked_if : Candidate → Bool → Candidate
marked_if c marks = record { row = c.row; marked = c.marked || marks }

abbrev pub row_if_unmarked : Candidate → Option Row
row_if_unmarked c = cond c.marked None (Some c.row)

-- the rows of the unmarked candidates, in their order
unfoldable pub unmarked : List Candidate → List Row
unmarked cs = filter_map row_if_unmarked cs

-- a round marks the candidate: it is unmarked, and a move leads from it out of the unmarked rows
abbrev pub marked_by : ModelRecord → (Row → Bool) → List Row → Candidate → Bool
marked_by d calls rows c = not c.marked && not (keeps_rule_2 d calls rows c.row)

-- and so it is after the round
abbrev pub after : ModelRecord → (Row → Bool) → List Row → Candidate → Candidate
after d calls rows c = marked_if c (marked_by d calls rows c)
