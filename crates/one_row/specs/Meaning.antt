-- What the detector of one row carries, and when there is one.
use Rattle.std.specs.Prelude.{cond, Ok, Err, Result}
use Rattle.model.specs.declared.row.Row.{Row}
use Rattle.model.specs.declared.sealed.Model.{Model}
use Rattle.model.specs.Drafts.{recorded}
use Rattle.model.specs.Records.{ModelRecord}
use Rattle.one_row.specs.declared.one_row.OneRow.{OneRow}
use Rattle.one_row.specs.Standstill.{stands_still}

abbrev pub one_row_model : OneRow → ModelRecord
one_row_model d = recorded d.model

abbrev pub one_row : OneRow → Row
one_row d = d.row

-- the detector by its model and its row, or the model given back
abbrev pub Making : Type 0
Making = Result (ModelRecord × Row) ModelRecord

abbrev pub making_told : Result OneRow Model → Making
making_told (Ok d) = Ok (one_row_model d, one_row d)
making_told (Err m) = Err (recorded m)

abbrev pub making_answer : ModelRecord → Row → Making
making_answer d r = cond {A = Making} (stands_still d r) (Ok (d, r)) (Err d)
