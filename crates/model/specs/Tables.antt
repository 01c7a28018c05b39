-- The moves of a model in hand.
use Rattle.std.specs.Prelude.{ℕ, ◌-◌, cond, List, [], ◌∷◌, ◌++◌, length, is_ok, Ok, Err, vec_items, Result, nat_lt, slice_index_or, slice_set}
use Rattle.refusal.specs.declared.Refusal.{Refusal}
use Rattle.refusal.specs.declared.Refusal.TheVariants.{TooMany}
use Rattle.model.specs.declared.moves.Move.{Move}
use Rattle.model.specs.declared.table.MoveTable.{MoveTable}
use Rattle.model.specs.Rows.{open_row}

-- what a step or a check answers: it is done, or nothing is wrong; else why it is refused
abbrev pub Answer : Type 0
Answer = Result (Unit {0}) Refusal

abbrev pub table_moves : MoveTable → List Move
table_moves t = vec_items t.moves

-- a move as it is begun
abbrev pub begun : List ℕ → Move
begun name = record { name = name; conditions = open_row; effects = open_row }

-- a move is begun where there are less than 128
abbrev pub begin_answer : List Move → Answer
begin_answer ms = cond (nat_lt (length ms) 128) (Ok tt) (Err TooMany)

-- the moves with one more, or as they were where it is refused
abbrev pub with_begun : List Move → List ℕ → List Move
with_begun ms name = cond (is_ok (begin_answer ms)) (ms ++ begun name ∷ []) ms

-- the move begun last; one that is blank where none is begun
abbrev pub last_begun : List Move → Move
last_begun ms = slice_index_or ms (length ms - 1) (begun [])

-- the moves, with m in the place of the one begun last
abbrev pub with_last : List Move → Move → List Move
with_last ms m = slice_set ms (length ms - 1) m
