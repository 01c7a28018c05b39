-- A new book over a detector of a model: what it answers to orders one after another, the rows that it then has, and what was left in the work lists and
-- buffers that the orders brought.
use Rattle.std.specs.Prelude.{ℕ, List, [], ◌∷◌, replicate}
use Rattle.model.specs.declared.row.Row.{Row}
use Rattle.model.specs.Rows.{open_row}
use Rattle.model.specs.Records.{ModelRecord}
use Rattle.detectors.specs.Choosing.{Chosen}
use Rattle.detectors.specs.Shipping.{told_dead}
use Rattle.walk.specs.declared.walked.Walked.{Walked}
use Rattle.walk.specs.Walks.{first}
use Rattle.orders.specs.Orders.{Brought, probe, AnswerTold}
use Rattle.orders.specs.Runs.{answers_run, rows_run, left_run}

-- the detectors, by their kinds and operands
abbrev pub bare : Chosen
bare = (0, 0xff ∷ 0xff ∷ 0xff ∷ [])

abbrev pub relaxed : Chosen
relaxed = (1, 0xff ∷ 0xff ∷ 0xff ∷ [])

abbrev pub pattern_over : ℕ → ℕ → Chosen
pattern_over v w = (2, v ∷ w ∷ 0xff ∷ [])

abbrev pub answers : ModelRecord → Chosen → List Brought → List AnswerTold
answers d detector orders = answers_run d (told_dead d detector) [] orders

abbrev pub rows : ModelRecord → Chosen → List Brought → List Row
rows d detector orders = rows_run d (told_dead d detector) [] orders

abbrev pub left : ModelRecord → Chosen → List Brought → List Brought
left d detector orders = left_run d (told_dead d detector) [] orders

-- what lies in a work list and in a buffer before an order
abbrev pub places : ℕ → List Walked
places n = replicate n (first open_row)

abbrev pub bytes : ℕ → List ℕ
bytes n = replicate n 0xff

-- the probe of a state, with so many places, and so many bytes for a plan
abbrev pub probe_with : Row → ℕ → ℕ → Brought
probe_with state n m = probe state (places n) (bytes m)

-- with 256 of both
abbrev pub probe_of : Row → Brought
probe_of state = probe_with state 256 256
