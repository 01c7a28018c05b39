-- A run of orders on a book, over a detector that carries the model d and calls the rows of `dead` dead.
use Rattle.std.specs.Prelude.{Bool, List, [], ◌∷◌, Ok, Err, Result}
use Rattle.refusal.specs.declared.Refusal.{Refusal}
use Rattle.model.specs.declared.row.Row.{Row}
use Rattle.model.specs.Records.{ModelRecord}
use Rattle.book.specs.declared.refused.Refused.{Refused}
use Rattle.book.specs.declared.settled.Settled.{Settled}
use Rattle.book.specs.Refusals.{refused as alone}
use Rattle.book.specs.Verdicts.{judge_answer}
use Rattle.book.specs.Offers.{offer_answer, offer_rows}
use Rattle.book.specs.Settles.{settle_answer, settle_rows}
use Rattle.book.specs.Probes as probes
use Rattle.book.specs.Written.{write_answer, buffer_after}
use Rattle.orders.specs.Orders.{Brought, judge, probe, offer, settle, write, AnswerTold, judged, called_dead, has_plan, offered, settled, wrote, refusal_told}

-- an answer, or a refusal of which no row and no move is told
abbrev pub told_by : {X : Type 0} → (X → AnswerTold) → Result X Refusal → AnswerTold
told_by tell (Ok x) = tell x
told_by tell (Err why) = refusal_told (alone why)

-- an answer, or a refusal
abbrev pub told_with_row : {X : Type 0} → (X → AnswerTold) → Result X Refused → AnswerTold
told_with_row tell (Ok x) = tell x
told_with_row tell (Err why) = refusal_told why

abbrev pub probe_told : probes.ProbeTold → AnswerTold
probe_told (probes.called_dead states rows entries) = called_dead states rows entries
probe_told (probes.has_plan states length) = has_plan states length

abbrev pub settle_told : Settled → AnswerTold
settle_told s = settled s.added s.rounds

module _ (d : ModelRecord) (dead : Row → Bool) where
  -- what a book with these rows answers to an order
  unfoldable pub answer : List Row → Brought → AnswerTold
  answer rows (judge r) = told_by judged (judge_answer d dead rows r)
  answer rows (probe r work_list plan) = told_by probe_told (probes.probe_answer d dead rows r work_list plan)
  answer rows (offer list) = told_with_row offered (offer_answer d dead rows list)
  answer rows (settle list) = told_with_row settle_told (settle_answer d dead rows list)
  answer rows (write buffer) = told_by wrote (write_answer buffer rows)

  -- the rows that the book has afterwards
  unfoldable pub rows_after : List Row → Brought → List Row
  rows_after rows (judge r) = rows
  rows_after rows (probe r work_list plan) = probes.probe_rows d dead rows r work_list
  rows_after rows (offer list) = offer_rows d dead rows list
  rows_after rows (settle list) = settle_rows d dead rows list
  rows_after rows (write buffer) = rows

  -- the order, with what its work list and buffers hold afterwards
  unfoldable pub left_of : List Row → Brought → Brought
  left_of rows (judge r) = judge r
  left_of rows (probe r work_list plan) = probe r (probes.probe_work_list d dead rows r work_list) (probes.probe_plan d dead rows r work_list plan)
  left_of rows (offer list) = offer list
  left_of rows (settle list) = settle list
  left_of rows (write buffer) = write (buffer_after buffer rows)

  -- the rows that a book with these rows has after a list of orders
  unfoldable pub rows_run : List Row → List Brought → List Row
  rows_run rows [] = rows
  rows_run rows (o ∷ os) = rows_run (rows_after rows o) os

  -- what it answers to them, one after another
  unfoldable pub answers_run : List Row → List Brought → List AnswerTold
  answers_run rows [] = []
  answers_run rows (o ∷ os) = answer rows o ∷ answers_run (rows_after rows o) os

  -- and what they hold afterwards
  unfoldable pub left_run : List Row → List Brought → List Brought
  left_run rows [] = []
  left_run rows (o ∷ os) = left_of rows o ∷ left_run (rows_after rows o) os
