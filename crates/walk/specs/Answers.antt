-- What a walk answers, and what it leaves in the work list and the plan buffer that it was lent.
use Rattle.std.specs.Prelude.{ℕ, cond, List, length, min, map, Ok, Err, Result, nat_le}
use Rattle.lists.specs.Fronts.{over}
use Rattle.refusal.specs.declared.Refusal.{Refusal}
use Rattle.refusal.specs.declared.Refusal.TheVariants.{WorkListFull, BufferTooShort}
use Rattle.model.specs.declared.row.Row.{Row}
use Rattle.walk.specs.declared.walked.Walked.{Walked}
use Rattle.walk.specs.declared.ended.Ended.{Ended}
use Rattle.walk.specs.declared.ended.Ended.TheVariants.{Plan, NoPlan}
use Rattle.walk.specs.Walks.{Outcome, planned, exhausted, no_place, WholeWalk}

-- at most 256 places of the work list are used
abbrev pub places_used : List Walked → ℕ
places_used work_list = min 256 (length work_list)

-- the listed states, without the ways to them
abbrev pub states_of : List Walked → List Row
states_of listed = map (λ (w : Walked). w.state) listed

-- what is told of a walk that was not refused
pub data WalkTold : Type 0 where
  -- so many states are listed, and the plan has so many moves
  plan : ℕ → ℕ → WalkTold
  -- so many states are listed, and there is no plan
  no_plan : ℕ → WalkTold

abbrev pub ended_told : Result Ended Refusal → Result WalkTold Refusal
ended_told (Ok (Plan states length)) = Ok (plan states length)
ended_told (Ok (NoPlan states)) = Ok (no_plan states)
ended_told (Err why) = Err why

-- by how many states are listed, how many bytes there are for a plan, and what the walk came to
abbrev pub outcome_answer : ℕ → ℕ → Outcome → Result WalkTold Refusal
outcome_answer states bytes (planned ns) = cond (nat_le (length ns) bytes) (Ok (plan states (length ns))) (Err BufferTooShort)
outcome_answer states bytes exhausted = Ok (no_plan states)
outcome_answer states bytes no_place = Err WorkListFull

-- the answer of a walk, with so many bytes for a plan
abbrev pub walk_answer : ℕ → WholeWalk → Result WalkTold Refusal
walk_answer bytes w = outcome_answer (length w.listed) bytes w.outcome

-- the work list afterwards: the listed states at its front, and behind them what was there
abbrev pub work_list_after : List Walked → WholeWalk → List Walked
work_list_after work_list w = over w.listed work_list

-- the plan buffer afterwards: a plan that has room lies at its front, a byte for each move; nothing else changes
abbrev pub outcome_plan : List ℕ → Outcome → List ℕ
outcome_plan buffer (planned ns) = cond (nat_le (length ns) (length buffer)) (over ns buffer) buffer
outcome_plan buffer exhausted = buffer
outcome_plan buffer no_place = buffer

abbrev pub plan_after : List ℕ → WholeWalk → List ℕ
plan_after buffer w = outcome_plan buffer w.outcome
