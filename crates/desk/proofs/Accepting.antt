-- A step of writing the model that was accepted.
use Rattle.std.proofs.Common.{◌≡◌, Ok}
use Rattle.model.specs.Records.{ModelRecord}
use Rattle.model.specs.Tables.{Answer}
use Rattle.desk.specs.Steps.{Phase, goes, answered}

pub goes_on : {a : Answer} {p : Phase} {d e : ModelRecord} → Ok tt ≡ a → e ≡ d → goes p e ≡ answered a p d
goes_on {p = p} is same = λ i. answered (is i) p (same i)
