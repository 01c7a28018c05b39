-- What is learned: the parts, and how many entries they regained.
use Rattle.std.specs.Prelude.{ℕ, List, take}
use Rattle.model.specs.declared.row.Row.{Row}
use Rattle.learning.specs.declared.learned.Learned.{Learned}

abbrev pub parts_of_learned : Learned → List Row
parts_of_learned l = take l.count l.rows

abbrev pub entries_of_learned : Learned → ℕ
entries_of_learned l = l.entries
