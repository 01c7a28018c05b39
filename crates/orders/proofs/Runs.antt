-- The places of a run: what is answered, left and held at the place i is what the book does that the orders before it leave.
use Rattle.std.proofs.Common.{◌≡◌, ℕ, zero, suc, Bool, List, [], ◌∷◌, length, take, Some, refl, ap}
use Rattle.std.specs.List.{slice_get}
use Rattle.model.specs.declared.row.Row.{Row}
use Rattle.model.specs.Records.{ModelRecord}
use Rattle.orders.specs.Orders.{Brought, AnswerTold}
use Rattle.orders.specs.Runs.{answer, rows_after, left_of, rows_run, answers_run, left_run}
use Rattle.orders.specs.WholeRuns.{rows_before}

nothing_there : {X Y : Type 0} (i : ℕ) (x : X) → slice_get {X = X} [] i ≡ Some x → Y
nothing_there i x e = absurd (cc)

module _ (d : ModelRecord) (gone : Row → Bool) where
  as_many : (rows : List Row) (orders : List Brought) → length (answers_run d gone rows orders) ≡ length orders
  unfolding answers_run
  as_many rows [] = refl
  as_many rows (o ∷ orders) = ap suc (as_many (rows_after d gone rows o) orders)

  answer_at : (rows : List Row) (orders : List Brought) (i : ℕ) (o : Brought) → slice_get orders i ≡ Some o → slice_get (answers_run d gone rows orders) i ≡ Some (answer d gone (rows_run d gone rows (take i orders)) o)
  unfolding answers_run rows_run
  answer_at rows [] i o h = nothing_there i o h
  answer_at rows (x ∷ orders) zero o h = let same : x ≡ o = cc in ap (λ y. Some (answer d gone rows y)) same
  answer_at rows (x ∷ orders) (suc i) o h = answer_at (rows_after d gone rows x) orders i o h

  left_at : (rows : List Row) (orders : List Brought) (i : ℕ) (o : Brought) → slice_get orders i ≡ Some o → slice_get (left_run d gone rows orders) i ≡ Some (left_of d gone (rows_run d gone rows (take i orders)) o)
  unfolding left_run rows_run
  left_at rows [] i o h = nothing_there i o h
  left_at rows (x ∷ orders) zero o h = let same : x ≡ o = cc in ap (λ y. Some (left_of d gone rows y)) same
  left_at rows (x ∷ orders) (suc i) o h = left_at (rows_after d gone rows x) orders i o h

  one_more : (rows : List Row) (orders : List Brought) (i : ℕ) (o : Brought) → slice_get orders i ≡ Some o → rows_run d gone rows (take (suc i) orders) ≡ rows_after d gone (rows_run d gone rows (take i orders)) o
  unfolding rows_run
  one_more rows [] i o h = nothing_there i o h
  one_more rows (x ∷ orders) zero o h = let same : x ≡ o = cc in ap (rows_after d gone rows) same
  one_more rows (x ∷ orders) (suc i) o h = one_more (rows_after d gone rows x) orders i o h

  -- a run on a new book
  module _ (orders : List Brought) where
    pub as_many_answers : length (answers_run d gone [] orders) ≡ length orders
    as_many_answers = as_many [] orders

    module _ (i : ℕ) (o : Brought) (order : slice_get orders i ≡ Some o) where
      pub told_at : (told : AnswerTold) → slice_get (answers_run d gone [] orders) i ≡ Some told → answer d gone (rows_before d gone orders i) o ≡ told
      told_at told at = let here = answer_at [] orders i o order in cc

      pub left_so : slice_get (left_run d gone [] orders) i ≡ Some (left_of d gone (rows_before d gone orders i) o)
      left_so = left_at [] orders i o order

      -- the rows that the next order comes to
      pub rows_next : rows_before d gone orders (suc i) ≡ rows_after d gone (rows_before d gone orders i) o
      rows_next = one_more [] orders i o order
