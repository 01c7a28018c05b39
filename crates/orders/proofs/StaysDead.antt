-- What was answered dead stays dead.
use Rattle.std.proofs.Common.{◌≡◌, ◌⊎◌, ℕ, suc, Bool, true, List, [], Some, is_ok, ◌∷◌, not, refl, sym, ap, ◌∙◌, subst, inl, inr, arith}
use Rattle.std.proofs.lemmas.Bool.{and_parts, false≢true, both_ways, not-true}
use Rattle.model.specs.declared.row.Row.{Row}
use Rattle.model.specs.Records.{ModelRecord, Sealed, row_of_model}
use Rattle.detector.specs.Laws.{Lawful}
use Rattle.walk.specs.declared.walked.Walked.{Walked}
use Rattle.book.specs.Probes as probes
use Rattle.book.specs.Verdicts.{book_dead}
use Rattle.book.proofs.NoPlan.{row_of_state}
use Rattle.orders.specs.Orders.{Brought, judge, probe, offer, settle, write, AnswerTold, judged}
use Rattle.orders.specs.Runs.{told_by, probe_told, answer, rows_after, answers_run}
use Rattle.orders.specs.WholeRuns.{rows_before, row_asked, AsksAt, says_dead, DeadAt, refusals_of, refused_by, DeadStaysDead}
use Rattle.orders.proofs.Kept.{called_grows, no_row_is_lost, lawful_at}
use Rattle.orders.proofs.ProbedDead.{probed_dead}
use Rattle.book.proofs.ProbeCases.{judge_cases, probe_cases}
use Rattle.orders.proofs.Questions.{RefusedBy, wrong_entry, no_state}
use Rattle.orders.proofs.Runs.{told_at, rows_next}

-- a question is answered dead, or refused by the numbers of such a question
abbrev DeadOrRefused : Brought → AnswerTold → Type 0
DeadOrRefused o told = (says_dead told ≡ true) ⊎ (refused_by (refusals_of o) told ≡ true)

module _ (d : ModelRecord) (gone : Row → Bool) (rows : List Row) where
  -- a row that is called dead if it is one of the model
  module _ (t : Row) (called : row_of_model d t ≡ true → book_dead d gone rows t ≡ true) where
    judged_so : DeadOrRefused (judge t) (answer d gone rows (judge t))
    unfolding answer
    judged_so =
        judge_cases d t gone rows (λ a. DeadOrRefused (judge t) (told_by judged a))
        (λ why is. inr (subst (RefusedBy (6 ∷ 7 ∷ [])) is (wrong_entry d.variables t [])))
        (λ fits. inl (called fits))

    probed_so : (work_list : List Walked) (plan : List ℕ) → DeadOrRefused (probe t work_list plan) (answer d gone rows (probe t work_list plan))
    unfolding answer
    probed_so work_list plan =
        probe_cases d t gone rows work_list plan (λ a. DeadOrRefused (probe t work_list plan) (told_by probe_told a))
        (λ why is. inr (subst (RefusedBy (6 ∷ 7 ∷ 15 ∷ [])) is (no_state d.variables t)))
        (λ _ _. inl refl)
        (λ state walks.
        let silent = (and_parts (is_ok (probes.state_checked d.variables t)) (not (book_dead d gone rows t)) walks).1 in
        absurd (both_ways (book_dead d gone rows t) (not-true (book_dead d gone rows t) silent) (called (row_of_state d t state))))

  asked_so : (o : Brought) (t : Row) → row_asked o ≡ Some t → (row_of_model d t ≡ true → book_dead d gone rows t ≡ true) → DeadOrRefused o (answer d gone rows o)
  asked_so (judge x) t asks called = let same : t ≡ x = cc in judged_so x (subst (λ (r : Row). row_of_model d r ≡ true → book_dead d gone rows r ≡ true) same called)
  asked_so (probe x work_list plan) t asks called = let same : t ≡ x = cc in probed_so x (subst (λ (r : Row). row_of_model d r ≡ true → book_dead d gone rows r ≡ true) same called) work_list plan
  asked_so (offer list) t asks called = absurd (cc)
  asked_so (settle list) t asks called = absurd (cc)
  asked_so (write buffer) t asks called = absurd (cc)

  -- a row that is answered dead is called dead by the book as it is afterwards
  judged_dead : (r : Row) → says_dead (answer d gone rows (judge r)) ≡ true → book_dead d gone (rows_after d gone rows (judge r)) r ≡ true
  unfolding answer rows_after
  judged_dead r = judge_cases d r gone rows (λ a. says_dead (told_by judged a) ≡ true → book_dead d gone rows r ≡ true) (λ why _ h. absurd (false≢true h)) (λ _ h. h)

  probe_dead : (r : Row) (work_list : List Walked) (plan : List ℕ) → says_dead (answer d gone rows (probe r work_list plan)) ≡ true → book_dead d gone (rows_after d gone rows (probe r work_list plan)) r ≡ true
  unfolding answer rows_after
  probe_dead r work_list plan = probed_dead d gone rows r work_list plan

  dead_afterwards : (o : Brought) (r : Row) → row_asked o ≡ Some r → says_dead (answer d gone rows o) ≡ true → book_dead d gone (rows_after d gone rows o) r ≡ true
  dead_afterwards (judge x) r asks h = let same : x ≡ r = cc in subst (λ (t : Row). book_dead d gone (rows_after d gone rows (judge x)) t ≡ true) same (judged_dead x h)
  dead_afterwards (probe x work_list plan) r asks h = let same : x ≡ r = cc in subst (λ (t : Row). book_dead d gone (rows_after d gone rows (probe x work_list plan)) t ≡ true) same (probe_dead x work_list plan h)
  dead_afterwards (offer list) r asks h = absurd (cc)
  dead_afterwards (settle list) r asks h = absurd (cc)
  dead_afterwards (write buffer) r asks h = absurd (cc)

module _ (d : ModelRecord) (gone : Row → Bool) (sealed : Sealed d) (laws : Lawful d gone) (orders : List Brought) where
  abbrev rows_at : ℕ → List Row
  rows_at i = rows_before d gone orders i

  called_after : (i : ℕ) (r : Row) → AsksAt orders i r → DeadAt (answers_run d gone [] orders) i → book_dead d gone (rows_at (suc i)) r ≡ true
  called_after i r asks told =
      let o = asks.0 in
      subst (λ (l : List Row). book_dead d gone l r ≡ true) (sym (rows_next d gone orders i o asks.1))
      (dead_afterwards d gone (rows_at i) o r asks.2 (ap says_dead (told_at d gone orders i o asks.1 told.0 told.1) ∙ told.2))

  pub dead_stays_dead : DeadStaysDead d orders (answers_run d gone [] orders)
  dead_stays_dead i r asks told =
      let called = called_after i r asks told in
      let lawful = lawful_at d gone sealed laws orders (suc i) in
      record {
        no_state_with_it_has_a_plan = λ s state within. lawful.dead_states_have_no_plan s state (lawful.containing_rows_are_dead r s called (row_of_state d s state) within);
        later_rows_with_it_are_dead = λ j o t answered later order asks_t within at_j.
            subst (DeadOrRefused o) (told_at d gone orders j o order answered at_j)
            (asked_so d gone (rows_at j) o t asks_t (λ fits.
            called_grows d gone (rows_at (suc i)) (rows_at j) (no_row_is_lost d gone orders (suc i) j (omega arith)) t (lawful.containing_rows_are_dead r t called fits within)));
      }
