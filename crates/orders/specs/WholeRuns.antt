-- What is promised of every run of orders on a new book, over a detector that keeps the two laws. The orders are told as they came, with what their work
-- lists and buffers held afterwards, and with the answers to them, place by place. The promise entire stands at the end; what stands before it are its parts.
use Rattle.std.specs.Prelude.{◌≡◌, ◌⊎◌, ℕ, suc, ◌<◌, Bool, true, false, List, [], ◌∷◌, length, take, Some, None, Option, ◌==◌, slice_get}
use Rattle.std.specs.List.{list_any}
use Rattle.model.specs.declared.row.Row.{Row}
use Rattle.model.specs.Rows.{contained}
use Rattle.model.specs.Plans.{Plan, ShortestPlan}
use Rattle.model.specs.Records.{ModelRecord, Sealed, state_of_model}
use Rattle.detector.specs.Laws.{Lawful, EqualMeaning}
use Rattle.walk.specs.declared.walked.Walked.{Walked}
use Rattle.sheet.specs.Commands.{commands}
use Rattle.hand.specs.Gathering.{nothing}
use Rattle.hand.specs.ReadBack as read
use Rattle.settling.specs.Selections.{picked, WithinPlaces}
use Rattle.orders.specs.Orders.{Brought, judge, probe, offer, settle, write, AnswerTold, judged, called_dead, has_plan, offered, settled, wrote, refused}
use Rattle.orders.specs.Runs.{answer, rows_after, rows_run, answers_run, left_run}

-- the rows that the book has when the order at the place i comes
abbrev pub rows_before : ModelRecord → (Row → Bool) → List Brought → ℕ → List Row
rows_before d dead orders i = rows_run d dead [] (take i orders)

-- the row that an order judges or probes
abbrev pub row_asked : Brought → Option Row
row_asked (judge r) = Some r
row_asked (probe r work_list plan) = Some r
row_asked (offer list) = None
row_asked (settle list) = None
row_asked (write buffer) = None

-- the order at the place i judges or probes the row r
abbrev pub AsksAt : List Brought → ℕ → Row → Type 0
AsksAt orders i r = (o : Brought) × (slice_get orders i ≡ Some o) × (row_asked o ≡ Some r)

abbrev pub says_dead : AnswerTold → Bool
says_dead (judged is_dead) = is_dead
says_dead (called_dead states rows entries) = true
says_dead (has_plan states length) = false
says_dead (offered added) = false
says_dead (settled added rounds) = false
says_dead (wrote length) = false
says_dead (refused number row step) = false

-- the order at the place i is answered dead
abbrev pub DeadAt : List AnswerTold → ℕ → Type 0
DeadAt answers i = (t : AnswerTold) × (slice_get answers i ≡ Some t) × (says_dead t ≡ true)

-- The numbers by which a question may be refused for its row: 6 and 7 for an entry that no row of the model has, and a probe by 15 too, for a variable
-- that is left open.
abbrev pub refusals_of : Brought → List ℕ
refusals_of (judge r) = 6 ∷ 7 ∷ []
refusals_of (probe r work_list plan) = 6 ∷ 7 ∷ 15 ∷ []
refusals_of (offer list) = []
refusals_of (settle list) = []
refusals_of (write buffer) = []

-- the answer is a refusal with one of these numbers
abbrev pub refused_by : List ℕ → AnswerTold → Bool
refused_by numbers (judged is_dead) = false
refused_by numbers (called_dead states rows entries) = false
refused_by numbers (has_plan states length) = false
refused_by numbers (offered added) = false
refused_by numbers (settled added rounds) = false
refused_by numbers (wrote length) = false
refused_by numbers (refused number row step) = list_any (λ n. number == n) numbers

-- The row r was judged or probed at the place i, and answered dead. So it stays: no state of the model that contains it has a plan, and each later judgement
-- or probe of a row that contains it is answered dead too, unless it is refused for that row.
pub record StaysDead (d : ModelRecord) (orders : List Brought) (answers : List AnswerTold) (i : ℕ) (r : Row) : Type 0 where
  pub no_state_with_it_has_a_plan : (s : Row) → state_of_model d s ≡ true → contained r s ≡ true → (ns : List ℕ) → Plan d s ns → ⊥
  pub later_rows_with_it_are_dead :
      (j : ℕ) (o : Brought) (t : Row) (told : AnswerTold) → i < j → slice_get orders j ≡ Some o → row_asked o ≡ Some t → contained r t ≡ true
      → slice_get answers j ≡ Some told → (says_dead told ≡ true) ⊎ (refused_by (refusals_of o) told ≡ true)

abbrev pub DeadStaysDead : ModelRecord → List Brought → List AnswerTold → Type 0
DeadStaysDead d orders answers = (i : ℕ) (r : Row) → AsksAt orders i r → DeadAt answers i → StaysDead d orders answers i r

-- Where a probe is answered with a plan of n moves, the first n bytes of its plan buffer, each the number of a move, are a shortest plan for its state.
abbrev pub PlansAreShortest : ModelRecord → List Brought → List Brought → List AnswerTold → Type 0
PlansAreShortest d orders left answers =
    (i : ℕ) (state : Row) (work_list : List Walked) (plan : List ℕ) → slice_get orders i ≡ Some (probe state work_list plan)
    → (states n : ℕ) → slice_get answers i ≡ Some (has_plan states n)
    → (list : List Walked) × (buffer : List ℕ) × (slice_get left i ≡ Some (probe state list buffer)) × (length (take n buffer) ≡ n) × ShortestPlan d state (take n buffer)

-- A settle of these candidates found a book with the rows `found`, added so many, and left the rows `after`. There is a selection of the candidates, by their
-- places, that would have passed as an offer to the book as it was found, adding the same rows; and every selection that would have passed lies within it.
pub record SettledTheLargest (d : ModelRecord) (dead : Row → Bool) (candidates found after : List Row) (added : ℕ) : Type 0 where
  pub selection : List Bool
  pub one_for_each_candidate : length selection ≡ length candidates
  pub it_would_have_passed : answer d dead found (offer (picked selection candidates)) ≡ offered added
  pub adding_the_same : rows_after d dead found (offer (picked selection candidates)) ≡ after
  pub others_lie_within :
      (other : List Bool) (n : ℕ) → answer d dead found (offer (picked other candidates)) ≡ offered n → WithinPlaces candidates other selection

-- each settle that is answered did so
abbrev pub SettledSetsAreTheLargest : ModelRecord → (Row → Bool) → List Brought → List AnswerTold → Type 0
SettledSetsAreTheLargest d dead orders answers =
    (i : ℕ) (candidates : List Row) → slice_get orders i ≡ Some (settle candidates)
    → (added rounds : ℕ) → slice_get answers i ≡ Some (settled added rounds)
    → SettledTheLargest d dead candidates (rows_before d dead orders i) (rows_before d dead orders (suc i)) added

-- These bytes were written of a book with these rows. By what the commands of a sheet mean, they offer a list, where they are read with nothing in hand and an
-- empty list. Offered to a new book over any detector of equal meaning, the list passes and all its rows are added, and that book judges every row as the
-- written one did.
pub record ReadsBack (d : ModelRecord) (dead : Row → Bool) (rows : List Row) (bytes : List ℕ) : Type 0 where
  pub list : List Row
  pub is_offered : read.offered d.variables nothing (commands bytes) ≡ Some list
  pub passes_and_adds_all : (e : ModelRecord) (dead_too : Row → Bool) → EqualMeaning d e dead dead_too → answer e dead_too [] (offer list) ≡ offered (length list)
  pub judges_the_same :
      (e : ModelRecord) (dead_too : Row → Bool) → EqualMeaning d e dead dead_too
      → (t : Row) → answer e dead_too (rows_after e dead_too [] (offer list)) (judge t) ≡ answer d dead rows (judge t)

-- Where a write is answered with n, the first n bytes of its buffer are read back so.
abbrev pub WrittenBooksReadBack : ModelRecord → (Row → Bool) → List Brought → List Brought → List AnswerTold → Type 0
WrittenBooksReadBack d dead orders left answers =
    (i : ℕ) (before : List ℕ) → slice_get orders i ≡ Some (write before)
    → (n : ℕ) → slice_get answers i ≡ Some (wrote n)
    → (buffer : List ℕ) × (slice_get left i ≡ Some (write buffer)) × (length (take n buffer) ≡ n) × ReadsBack d dead (rows_before d dead orders i) (take n buffer)

-- The promise, entire: of a run of these orders on a new book, with what they hold afterwards and the answers to them, over a detector that carries the model
-- d and calls the rows of `dead` dead.
pub record PromiseOverTheWholeRun (d : ModelRecord) (dead : Row → Bool) (orders left : List Brought) (answers : List AnswerTold) : Type 0 where
  -- the answer to each order stands at its place
  pub each_order_is_answered : length answers ≡ length orders
  -- no state that contains a row that was called dead has a plan, and each later row that contains it is called dead too
  pub dead_stays_dead : DeadStaysDead d orders answers
  -- a plan that a probe tells is a shortest one
  pub plans_are_shortest : PlansAreShortest d orders left answers
  -- what a settle adds is the largest selection of its candidates that would have passed as an offer
  pub settled_sets_are_the_largest : SettledSetsAreTheLargest d dead orders answers
  -- what is written of a book, read and offered to a new one, gives a book that judges alike
  pub written_books_read_back : WrittenBooksReadBack d dead orders left answers

-- it is kept by every run over a lawful detector
unfoldable pub EveryRunKeepsThePromise : Type 0
EveryRunKeepsThePromise =
    (d : ModelRecord) (dead : Row → Bool) → Sealed d → Lawful d dead
    → (orders : List Brought) → PromiseOverTheWholeRun d dead orders (left_run d dead [] orders) (answers_run d dead [] orders)
