-- What is told of a settle: the rows that are left, and the rounds that it took.
use Rattle.std.specs.Prelude.{ℕ, List, take}
use Rattle.model.specs.declared.row.Row.{Row}
use Rattle.settling.specs.declared.sifted.Sifted.{Sifted}

abbrev pub rows_of_sifted : Sifted → List Row
rows_of_sifted s = take s.count s.rows

abbrev pub rounds_of_sifted : Sifted → ℕ
rounds_of_sifted s = s.rounds
