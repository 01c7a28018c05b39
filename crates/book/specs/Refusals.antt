-- An order that is refused: why, and where that is told, the place of a row in its list, and, as `step`, the number of the move that leads
-- from the row out of the set.
use Rattle.std.specs.Prelude.{ℕ, Some, None, Option, Ok, Err, Result}
use Rattle.refusal.specs.declared.Refusal.{Refusal}
use Rattle.book.specs.declared.refused.Refused.{Refused}

abbrev pub refused : Refusal → Refused
refused why = record { refusal = why; row = None; step = None }

abbrev pub refused_row : Refusal → ℕ → Refused
refused_row why n = record { refusal = why; row = Some n; step = None }

abbrev pub refused_step : Refusal → ℕ → ℕ → Refused
refused_step why n k = record { refusal = why; row = Some n; step = Some k }

-- an order is refused, or nothing stands against it
abbrev pub Checked : Type 0
Checked = Result (Unit {0}) Refused

-- refused for the row that is found, if one is
abbrev pub unless_row : Refusal → Option ℕ → Checked
unless_row why None = Ok tt
unless_row why (Some n) = Err (refused_row why n)

-- refused for the row that is found and the move that leads from it out of the set, if they are found
abbrev pub unless_step : Refusal → Option (ℕ × ℕ) → Checked
unless_step why None = Ok tt
unless_step why (Some p) = Err (refused_step why p.0 p.1)
