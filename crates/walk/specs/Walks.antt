-- A walk over the states of a model: each is listed once, and taken in order of arrival.
use Rattle.std.specs.Prelude.{ℕ, zero, suc, Bool, cond, ◌||◌, List, [], ◌∷◌, ◌++◌, length, Some, None, Option, nat_lt, slice_get, slice_index_or}
use Rattle.model.specs.declared.row.Row.{Row}
use Rattle.model.specs.declared.moves.Move.{Move}
use Rattle.model.specs.Rows.{open_row, contained}
use Rattle.model.specs.Moves.{applicable, progression}
use Rattle.model.specs.Records.{ModelRecord}
use Rattle.first_come.specs.Arrivals.{has}
use Rattle.walk.specs.declared.walked.Walked.{Walked}
use Rattle.walk.specs.declared.course.Course.{Course}
use Rattle.walk.specs.declared.course.Course.TheVariants.{Underway, Found, Full}
use Rattle.walk.specs.Sames.{same_state}

-- a state, with the place and the move that it came from
abbrev pub came : Row → ℕ → ℕ → Walked
came state from by = record { state = state; from = from; by = by }

-- zeros for the state from which the walk began
abbrev pub first : Row → Walked
first state = came state 0 0

-- what is listed at the place i
abbrev pub place : List Walked → ℕ → Walked
place listed i = slice_index_or listed i (first open_row)

-- a walk: what is listed, and how it stands
pub record Walk : Type 0 where
  pub listed : List Walked
  pub course : Course

abbrev pub walk_at : List Walked → Course → Walk
walk_at listed course = record { listed = listed; course = course }

-- the one walk, if it has ended, and else the other
abbrev pub unless_ended : Course → Walk → Walk → Walk
unless_ended Underway w next = next
unless_ended (Found from by) w next = w
unless_ended Full w next = w

-- one step more, unless the walk has ended
abbrev pub onward : Walk → (List Walked → Walk) → Walk
onward w step = unless_ended w.course w (step w.listed)

-- the step with the move that is read, if one is
abbrev pub on_move : Option Move → Walk → (Move → Walk) → Walk
on_move None w step = w
on_move (Some m) w step = step m

-- the model d, the rows that are called dead, and how many places there are
module _ (d : ModelRecord) (dead : Row → Bool) (room : ℕ) where
  -- A result of a move: if it contains the goal it ends the walk; if it is listed or called dead it is passed over; any other is listed.
  unfoldable pub arrive : List Walked → Walked → Walk
  arrive listed v =
      cond (contained d.goal v.state) (walk_at listed (Found v.from v.by))
      (cond (has same_state listed v || dead v.state) (walk_at listed Underway)
      (cond (nat_lt (length listed) room) (walk_at (listed ++ v ∷ []) Underway) (walk_at listed Full)))

  -- the move with a number, where it is applicable to the state at a place
  unfoldable pub try_move : ℕ → Row → ℕ → List Walked → Walk
  try_move at state number listed =
      on_move (slice_get d.moves number) (walk_at listed Underway)
      (λ m. cond (applicable m state) (arrive listed (came (progression m state) at number)) (walk_at listed Underway))

  -- the moves below n, by rising number
  unfoldable pub try_moves : ℕ → Row → ℕ → Walk → Walk
  try_moves at state zero w = w
  try_moves at state (suc n) w = onward (try_moves at state n w) (try_move at state n)

  -- the state at a place is taken, with every move
  unfoldable pub take_state : ℕ → List Walked → Walk
  take_state at listed =
      cond (nat_lt at (length listed)) (try_moves at (place listed at).state (length d.moves) (walk_at listed Underway)) (walk_at listed Underway)

  -- the states at the places below n are taken in order
  unfoldable pub take_states : ℕ → Walk → Walk
  take_states zero w = w
  take_states (suc n) w = onward (take_states n w) (take_state n)

-- the moves that led to the state at the place i; n is at least i
unfoldable pub way : ℕ → List Walked → ℕ → List ℕ
way zero listed i = []
way (suc n) listed zero = []
way (suc n) listed (suc i) = way n listed (place listed (suc i)).from ++ (place listed (suc i)).by ∷ []

-- what a walk comes to
pub data Outcome : Type 0 where
  -- the moves of the plan that it found
  planned : List ℕ → Outcome
  -- every listed state was taken, and there is no plan
  exhausted : Outcome
  -- a state must be listed, and no place is left
  no_place : Outcome

abbrev pub outcome_of : List Walked → Course → Outcome
outcome_of listed Underway = exhausted
outcome_of listed (Found from by) = planned (way from listed from ++ by ∷ [])
outcome_of listed Full = no_place

-- a whole walk: what is listed in the end, and what it comes to
pub record WholeWalk : Type 0 where
  pub listed : List Walked
  pub outcome : Outcome

abbrev pub whole : List Walked → Outcome → WholeWalk
whole listed outcome = record { listed = listed; outcome = outcome }

abbrev pub ended : Walk → WholeWalk
ended w = whole w.listed (outcome_of w.listed w.course)

-- The walk from a state: it is listed, and if it contains the goal the plan is empty; else the listed states are taken.
unfoldable pub walk_from : ModelRecord → (Row → Bool) → ℕ → Row → WholeWalk
walk_from d dead room start =
    let begun = first start ∷ [] in
    cond (nat_lt 0 room)
    (cond (contained d.goal start) (whole begun (planned [])) (ended (take_states d dead room room (walk_at begun Underway))))
    (whole [] no_place)
