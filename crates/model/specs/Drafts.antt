-- The record of a model in hand, in each of its states, and of a sealed one.
use Rattle.std.specs.Prelude.{Ok, Err, vec_items, Result}
use Rattle.model.specs.declared.row.Row.{Row}
use Rattle.model.specs.declared.domain.Domain.{Domain}
use Rattle.model.specs.declared.in_hand.NamingVariables.{NamingVariables}
use Rattle.model.specs.declared.in_hand.WritingMoves.{WritingMoves}
use Rattle.model.specs.declared.in_hand.WritingEnds.{WritingEnds}
use Rattle.model.specs.declared.sealed.Model.{Model}
use Rattle.model.specs.Rows.{open_row}
use Rattle.model.specs.Tables.{table_moves}
use Rattle.model.specs.Records.{ModelRecord, record_of}

-- the model of a domain with these ends
abbrev pub with_ends : Domain → Row → Row → ModelRecord
with_ends d start goal = record_of (vec_items d.variables) (table_moves d.moves) start goal

-- the model of a domain whose ends are still to be written
abbrev pub drafted : Domain → ModelRecord
drafted d = with_ends d open_row open_row

abbrev pub named : NamingVariables → ModelRecord
named n = drafted n.domain

abbrev pub written : WritingMoves → ModelRecord
written m = drafted m.domain

abbrev pub ended : WritingEnds → ModelRecord
ended e = with_ends e.domain e.start e.goal

abbrev pub recorded : Model → ModelRecord
recorded m = with_ends m.domain m.start m.goal

-- what came of sealing: the record of the sealed model, or of the one given back
abbrev pub sealed_or_back : Result Model WritingEnds → Result ModelRecord ModelRecord
sealed_or_back (Ok m) = Ok (recorded m)
sealed_or_back (Err e) = Err (ended e)
