-- Orders are run one by one.
use Rattle.std.proofs.Common.{◌≡◌, ℕ, ◌+◌, ◌<◌, ◌≤◌, Bool, List, [], ◌∷◌, ◌++◌, length, take, drop, map, set, get_or, Ok, Err, Result, Vec, vec_items, IfOk, sym, refl, ap, ◌∙◌, arith}
use Rattle.std.proofs.lemmas.List.{append_assoc, append-nil, drop_more, drop_all, take_all, take_more_set, drop-set-lt, map-append, length-drop}
use Rattle.model.specs.declared.row.Row.{Row}
use Rattle.model.specs.Records.{ModelRecord, Sealed}
use Rattle.detector.specs.Laws.{Lawful}
use Rattle.orders.specs.declared.order.Order.{Order}
use Rattle.orders.specs.declared.answer.Answer.{Answer}
use Rattle.orders.specs.Orders.{Brought, brought, AnswerTold, answer_told}
use Rattle.orders.specs.Runs.{answer, rows_after, left_of, answers_run, left_run}
use Rattle.orders.specs.WholeRuns.{PromiseOverTheWholeRun, EveryRunKeepsThePromise}
use Rattle.orders.proofs.Promise.{every_run_keeps_the_promise}

module _ (d : ModelRecord) (gone : Row → Bool) (orders : List Order) where
  -- The orders before the place i are run: they are left as they are `now`, with these answers, and the book has these rows. What is still to come gives the
  -- rest of the answers and of what is left.
  pub record RunTo (i : ℕ) (rows : List Row) (answers : List Answer) (now : List Order) : Type 0 where
    pub answered : map answer_told answers ++ answers_run d gone rows (map brought (drop i orders)) ≡ answers_run d gone [] (map brought orders)
    pub left : map brought (take i now) ++ left_run d gone rows (map brought (drop i orders)) ≡ left_run d gone [] (map brought orders)
    pub to_come : drop i now ≡ drop i orders

  pub none_is_run : RunTo 0 [] [] orders
  none_is_run = record { answered = refl; left = refl; to_come = refl }

  module _ (i : ℕ) (rows : List Row) (answers : List Answer) (now : List Order) (run : RunTo i rows answers now) where
    -- one order more
    module _ (o : Order) (within : i < length now) (read : o ≡ get_or now i o) where
      next : drop i now ≡ o ∷ drop (i + 1) now
      next = drop_more now i o within ∙ ap (λ (x : Order). x ∷ drop (i + 1) now) (sym read)

      inside : i < length orders
      inside = omega (arith, within, ap (λ (l : List Order). length l) run.to_come, length-drop i now, length-drop i orders)

      same : drop i orders ≡ o ∷ drop (i + 1) orders
      same =
          let all = drop_more orders i o inside in
          let first : o ≡ get_or orders i o = heads (sym next ∙ run.to_come ∙ all) in
          all ∙ ap (λ (x : Order). x ∷ drop (i + 1) orders) (sym first)
        where
          heads : {x y : Order} {xs ys : List Order} → x ∷ xs ≡ y ∷ ys → x ≡ y
          heads e = cc

      rest : drop (i + 1) now ≡ drop (i + 1) orders
      rest = tails (sym next ∙ run.to_come ∙ same)
        where
          tails : {x y : Order} {xs ys : List Order} → x ∷ xs ≡ y ∷ ys → xs ≡ ys
          tails e = cc

      answers_to_come : answers_run d gone rows (map brought (drop i orders)) ≡ answer d gone rows (brought o) ∷ answers_run d gone (rows_after d gone rows (brought o)) (map brought (drop (i + 1) orders))
      unfolding answers_run
      answers_to_come = ap (λ (l : List Order). answers_run d gone rows (map brought l)) same

      left_to_come : left_run d gone rows (map brought (drop i orders)) ≡ left_of d gone rows (brought o) ∷ left_run d gone (rows_after d gone rows (brought o)) (map brought (drop (i + 1) orders))
      unfolding left_run
      left_to_come = ap (λ (l : List Order). left_run d gone rows (map brought l)) same

      pub one_more_is_run : (a : Answer) (after : List Row) (kept : Order) → answer_told a ≡ answer d gone rows (brought o) → after ≡ rows_after d gone rows (brought o) → brought kept ≡ left_of d gone rows (brought o) → RunTo (i + 1) after (answers ++ a ∷ []) (set now i kept)
      one_more_is_run a after kept told grows leaves = record {
        answered =
            let more = answers_run d gone after (map brought (drop (i + 1) orders)) in
            let step : answer_told a ∷ more ≡ answers_run d gone rows (map brought (drop i orders)) = rw (told, grows) (sym answers_to_come) in
            ap (λ (l : List AnswerTold). l ++ more) (map-append answer_told answers (a ∷ []))
            ∙ append_assoc (map answer_told answers) (answer_told a ∷ []) more
            ∙ ap (λ (l : List AnswerTold). map answer_told answers ++ l) step ∙ run.answered;
        left =
            let more = left_run d gone after (map brought (drop (i + 1) orders)) in
            let step : brought kept ∷ more ≡ left_run d gone rows (map brought (drop i orders)) = rw (leaves, grows) (sym left_to_come) in
            ap (λ (l : List Brought). l ++ more) (ap (map brought) (take_more_set now i kept within) ∙ map-append brought (take i now) (kept ∷ []))
            ∙ append_assoc (map brought (take i now)) (brought kept ∷ []) more
            ∙ ap (λ (l : List Brought). map brought (take i now) ++ l) step ∙ run.left;
        to_come = drop-set-lt (i + 1) now i kept (omega arith) ∙ rest;
      }

    -- all of them
    module _ (over : length now ≤ i) where
      no_more : drop i orders ≡ []
      no_more = sym run.to_come ∙ drop_all i now over

      pub all_are_answered : map answer_told answers ≡ answers_run d gone [] (map brought orders)
      unfolding answers_run
      all_are_answered = sym (append-nil (map answer_told answers)) ∙ rw no_more at run.answered

      pub all_are_left : map brought now ≡ left_run d gone [] (map brought orders)
      unfolding left_run
      all_are_left = sym (append-nil (map brought now)) ∙ rw (no_more, take_all i now over) at run.left

-- what was answered and left keeps the promise
pub run_keeps_the_promise : (d : ModelRecord) (gone : Row → Bool) → Sealed d → (orders now : List Order) → {E A : Type 0} → (r : Result (Vec Answer A) E)
    → IfOk r (λ v. map answer_told (vec_items v) ≡ answers_run d gone [] (map brought orders)) → IfOk r (λ _. map brought now ≡ left_run d gone [] (map brought orders))
    → IfOk r (λ v. Lawful d gone → PromiseOverTheWholeRun d gone (map brought orders) (map brought now) (map answer_told (vec_items v)))
unfolding EveryRunKeepsThePromise
run_keeps_the_promise d gone sealed orders now (Ok v) answered left = λ laws. rw (answered, left) (every_run_keeps_the_promise d gone sealed laws (map brought orders))
run_keeps_the_promise d gone sealed orders now (Err e) answered left = tt
