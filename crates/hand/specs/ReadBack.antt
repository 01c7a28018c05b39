-- What is written of rows offers the same rows when it is read.
use Rattle.std.specs.Prelude.{◌≡◌, ◌≤◌, true, cond, List, [], ◌∷◌, length, is_ok, Some, None, Option, ◌==◌, slice_index}
use Rattle.std.specs.List.{list_all}
use Rattle.model.specs.declared.row.Row.{Row}
use Rattle.model.specs.declared.variable.Variable.{Variable}
use Rattle.model.specs.Tables.{Answer}
use Rattle.model.specs.Records.{ModelRecord, row_of_model}
use Rattle.sheet.specs.Reading.{Told}
use Rattle.sheet.specs.Commands.{Item, commands}
use Rattle.book.specs.Written.{rows_written}
use Rattle.hand.specs.Gathering.{Gathering, nothing, enter_answer, after_entry, next_answer, after_next}

-- what a step leaves, unless it is refused
abbrev pub unless_refused : Answer → Gathering → Option Gathering
unless_refused a g = cond (is_ok a) (Some g) None

-- what an entry or a next command leaves of the hand and the list; none where it is refused, and of any other command
abbrev pub told_gathers : List Variable → Gathering → Told → Option Gathering
told_gathers vs g said =
    let variable = slice_index said.1 0 in
    let value = slice_index said.1 1 in
    cond (said.0 == 0x52) (unless_refused (enter_answer vs g variable value) (after_entry vs g variable value))
    (cond (said.0 == 0x4e) (unless_refused (next_answer g) (after_next g)) None)

-- the list that an offer offers, if nothing follows it
abbrev pub last_offered : Gathering → List Item → Option (List Row)
last_offered g [] = Some g.list
last_offered g (c ∷ cs) = None

-- The list that is offered by commands of which the last is an offer, and each before it an entry or a next command that is not refused. None
-- of any other commands.
abbrev pub offered_from : List Variable → Option Gathering → List Item → Option (List Row)
offered_from vs None cs = None
offered_from vs (Some g) [] = None
offered_from vs (Some g) (c ∷ cs) = cond (c.said.0 == 0x4f) (last_offered g cs) (offered_from vs (told_gathers vs g c.said) cs)

abbrev pub offered : List Variable → Gathering → List Item → Option (List Row)
offered vs g cs = offered_from vs (Some g) cs

-- rows of a model, at most 256 of them, are offered again when what is written of them is read
unfoldable pub WrittenRowsReadBack : Type 0
WrittenRowsReadBack = (d : ModelRecord) (rows : List Row) → list_all (row_of_model d) rows ≡ true → length rows ≤ 256 → offered d.variables nothing (commands (rows_written rows)) ≡ Some rows
