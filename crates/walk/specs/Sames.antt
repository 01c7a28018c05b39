-- When two walked states are the same.
use Rattle.std.specs.Prelude.{Bool}
use Rattle.model.specs.Rows.{same_row}
use Rattle.walk.specs.declared.walked.Walked.{Walked}

-- the state alone is compared
abbrev pub same_state : Walked → Walked → Bool
same_state v w = same_row v.state w.state
