-- Orders on a book, with what they bring, and what an answer tells.
use Rattle.std.specs.Prelude.{ℕ, Bool, List, Option, vec_items}
use Rattle.refusal.specs.Numbers.{refusal_number}
use Rattle.model.specs.declared.row.Row.{Row}
use Rattle.detector.specs.Verdicts.{says_dead}
use Rattle.walk.specs.declared.walked.Walked.{Walked}
use Rattle.book.specs.declared.refused.Refused as why
use Rattle.book.specs.declared.probed.Probed.TheVariants.{Dead, Plan}
use Rattle.orders.specs.declared.order.Order.{Order}
use Rattle.orders.specs.declared.order.Order.TheVariants.{Judge, Probe, Offer, Settle, Write}
use Rattle.orders.specs.declared.answer.Answer.{Answer}
use Rattle.orders.specs.declared.answer.Answer.TheVariants.{Judged, Probed, Offered, Settled, Written, Refused}

-- an order with the content of all that it brings
pub data Brought : Type 0 where
  judge : Row → Brought
  -- the state, the work list, the plan buffer
  probe : Row → List Walked → List ℕ → Brought
  offer : List Row → Brought
  settle : List Row → Brought
  -- the buffer
  write : List ℕ → Brought

abbrev pub brought : Order → Brought
brought (Judge row) = judge row
brought (Probe state work_list plan) = probe state (vec_items work_list) (vec_items plan)
brought (Offer list) = offer (vec_items list)
brought (Settle list) = settle (vec_items list)
brought (Write buffer) = write (vec_items buffer)

-- what an answer tells
pub data AnswerTold : Type 0 where
  -- a judgement: whether the row is dead
  judged : Bool → AnswerTold
  -- a probe: dead, with the states listed, the rows added, the entries regained
  called_dead : ℕ → ℕ → ℕ → AnswerTold
  -- a probe: a plan, with the states listed and its length
  has_plan : ℕ → ℕ → AnswerTold
  -- an offer: the rows added
  offered : ℕ → AnswerTold
  -- a settle: the rows added, the rounds
  settled : ℕ → ℕ → AnswerTold
  -- a write: the bytes
  wrote : ℕ → AnswerTold
  -- the number of the refusal, and the row and the move, where they are told
  refused : ℕ → Option ℕ → Option ℕ → AnswerTold

abbrev pub refusal_told : why.Refused → AnswerTold
refusal_told r = refused (refusal_number r.refusal) r.row r.step

abbrev pub answer_told : Answer → AnswerTold
answer_told (Judged v) = judged (says_dead v)
answer_told (Probed (Dead states rows entries)) = called_dead states rows entries
answer_told (Probed (Plan states length)) = has_plan states length
answer_told (Offered added) = offered added
answer_told (Settled s) = settled s.added s.rounds
answer_told (Written length) = wrote length
answer_told (Refused r) = refusal_told r
