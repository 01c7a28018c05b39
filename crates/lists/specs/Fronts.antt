-- A list at the front of a buffer.
use Rattle.std.specs.Prelude.{List, ◌++◌, length, drop}

-- the buffer with the items at its front, and behind them what it held there
abbrev pub over : {X : Type 0} → List X → List X → List X
over items buffer = items ++ drop (length items) buffer
