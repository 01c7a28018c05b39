-- What the rows of every book keep along a run of orders; none of them is lost.
use Rattle.std.proofs.Common.{◌≡◌, ℕ, zero, suc, ◌+◌, ◌≤◌, Bool, true, ◌&&◌, cond, List, [], ◌∷◌, ◌++◌, length, take, is_ok, refl, ⊎_elim, arith}
use Rattle.std.specs.List.{list_all}
use Rattle.std.proofs.lemmas.Bool.{and_parts, and_from, or_cases, or_left, or_right, cond_both}
use Rattle.std.proofs.lemmas.List.{length-append}
use Rattle.first_come.specs.Arrivals.{Distinct}
use Rattle.model.specs.declared.row.Row.{Row}
use Rattle.model.specs.Rows.{same_row}
use Rattle.model.specs.Records.{ModelRecord, Sealed, row_of_model}
use Rattle.detector.specs.Laws.{Lawful}
use Rattle.rules.specs.Rules.{covers, keeps_rules}
use Rattle.lists.specs.Members.{Within}
use Rattle.lists.proofs.Members.{among_left}
use Rattle.rules.proofs.Covering.{covered_by_more}
use Rattle.walk.specs.declared.walked.Walked.{Walked}
use Rattle.walk.specs.Walks.{Outcome, planned, exhausted, no_place}
use Rattle.book.specs.Adding.{fresh, overfull, room_checked}
use Rattle.book.specs.Offers.{list_checked, offer_checked, offer_rows}
use Rattle.book.specs.Settles.{left_unmarked, settle_checked, settle_rows}
use Rattle.book.specs.Probes.{parts_of, outcome_rows, walk_of, walks, probe_rows}
use Rattle.book.specs.Verdicts.{book_dead}
use Rattle.book.proofs.NoPlan.{book_lawful}
use Rattle.book.proofs.OfferLaws.{ok_parts, room_left, offer_passes}
use Rattle.book.proofs.ProbeLaws.{probe_keeps}
use Rattle.book.proofs.Orders.{offer_keeps_fit, offer_keeps_once, offer_keeps_rules, settle_keeps_fit, settle_keeps_once, settle_keeps_the_rules}
use Rattle.orders.specs.Orders.{Brought, judge, probe, offer, settle, write}
use Rattle.orders.specs.Runs.{rows_after, rows_run}
use Rattle.orders.specs.WholeRuns.{rows_before}

-- what the rows of a book keep
pub record RowsOfABook (d : ModelRecord) (gone : Row → Bool) (rows : List Row) : Type 0 where
  pub few : length rows ≤ 256
  pub fit : list_all (row_of_model d) rows ≡ true
  pub once : Distinct same_row rows
  pub rules : keeps_rules d gone rows ≡ true

module _ (d : ModelRecord) (gone : Row → Bool) where
  -- what the book calls dead it calls dead with more rows
  pub called_grows : (rows more : List Row) → Within rows more → (t : Row) → book_dead d gone rows t ≡ true → book_dead d gone more t ≡ true
  called_grows rows more within t called =
      let after = row_of_model d t && covers more t in ⊎_elim
      (λ by_detector. or_left (gone t) after by_detector)
      (λ own. let parts = and_parts (row_of_model d t) (covers rows t) own in or_right (gone t) after (and_from (row_of_model d t) (covers more t) parts.0 (covered_by_more rows more t within parts.1)))
      (or_cases (gone t) (row_of_model d t && covers rows t) called)

  none_kept : RowsOfABook d gone []
  unfolding keeps_rules
  none_kept = record { few = omega arith; fit = refl; once = tt; rules = refl }

  module _ (rows list : List Row) where
    offer_few : RowsOfABook d gone rows → length (offer_rows d gone rows list) ≤ 256
    offer_few kept =
        cond_both (is_ok (offer_checked d gone rows list)) (rows ++ fresh rows list) rows (λ (l : List Row). length l ≤ 256)
        (λ passes. let room = (offer_passes d gone rows list passes kept.rules).at_most_256_in_the_book in omega (arith, length-append rows (fresh rows list)))
        (λ _. kept.few)

    offer_kept : Sealed d → RowsOfABook d gone rows → RowsOfABook d gone (offer_rows d gone rows list)
    offer_kept sealed kept = record {
      few = offer_few kept;
      fit = offer_keeps_fit d gone rows list sealed kept.fit kept.rules;
      once = offer_keeps_once d gone rows list sealed kept.once;
      rules = offer_keeps_rules d gone rows list sealed kept.fit kept.rules;
    }

    settle_room : is_ok (settle_checked d gone rows list) ≡ true → length rows + length (fresh rows (left_unmarked d gone rows list)) ≤ 256
    unfolding settle_checked
    settle_room passes = room_left rows (left_unmarked d gone rows list) (ok_parts (list_checked d.variables list) (room_checked rows (left_unmarked d gone rows list)) passes).1

    settle_few : RowsOfABook d gone rows → length (settle_rows d gone rows list) ≤ 256
    settle_few kept =
        let new = fresh rows (left_unmarked d gone rows list) in
        cond_both (is_ok (settle_checked d gone rows list)) (rows ++ new) rows (λ (l : List Row). length l ≤ 256)
        (λ passes. let room = settle_room passes in omega (arith, length-append rows new))
        (λ _. kept.few)

    settle_kept : Sealed d → RowsOfABook d gone rows → RowsOfABook d gone (settle_rows d gone rows list)
    settle_kept sealed kept = record {
      few = settle_few kept;
      fit = settle_keeps_fit d gone rows list sealed kept.fit kept.rules;
      once = settle_keeps_once d gone rows list sealed kept.once;
      rules = settle_keeps_the_rules d gone rows list sealed kept.fit kept.rules;
    }

  -- no row is lost
  module _ (rows : List Row) where
    grown : (b : Bool) (new : List Row) → Within rows (cond b (rows ++ new) rows)
    grown b new = cond_both b (rows ++ new) rows (Within rows) (λ _. among_left rows new) (λ _ r a. a)

    outcome_grows : (listed : List Walked) (o : Outcome) → Within rows (outcome_rows d gone rows listed o)
    outcome_grows listed (planned ns) = λ r a. a
    outcome_grows listed exhausted =
        let parts = parts_of d gone rows listed in
        cond_both (overfull rows parts) rows (rows ++ fresh rows parts) (Within rows) (λ _ r a. a) (λ _. among_left rows (fresh rows parts))
    outcome_grows listed no_place = λ r a. a

    pub probe_grows : (t : Row) (work_list : List Walked) → Within rows (probe_rows d gone rows t work_list)
    probe_grows t work_list =
        let w = walk_of d gone rows t work_list in
        cond_both (walks d gone rows t) (outcome_rows d gone rows w.listed w.outcome) rows (Within rows) (λ _. outcome_grows w.listed w.outcome) (λ _ r a. a)

    order_grows : (o : Brought) → Within rows (rows_after d gone rows o)
    unfolding rows_after
    order_grows (judge r) = λ s a. a
    order_grows (probe r work_list plan) = probe_grows r work_list
    order_grows (offer list) = grown (is_ok (offer_checked d gone rows list)) (fresh rows list)
    order_grows (settle list) = grown (is_ok (settle_checked d gone rows list)) (fresh rows (left_unmarked d gone rows list))
    order_grows (write buffer) = λ s a. a

  run_grows : (rows : List Row) (orders : List Brought) → Within rows (rows_run d gone rows orders)
  unfolding rows_run
  run_grows rows [] r a = a
  run_grows rows (o ∷ orders) r a = run_grows (rows_after d gone rows o) orders r (order_grows rows o r a)

  rows_grow : (rows : List Row) (orders : List Brought) (i j : ℕ) → i ≤ j → Within (rows_run d gone rows (take i orders)) (rows_run d gone rows (take j orders))
  unfolding rows_run
  rows_grow rows orders zero j h = run_grows rows (take j orders)
  rows_grow rows orders (suc i) zero h = absurd (omega arith)
  rows_grow rows [] (suc i) (suc j) h = λ r a. a
  rows_grow rows (o ∷ orders) (suc i) (suc j) h = rows_grow (rows_after d gone rows o) orders i j (omega arith)

  -- from one place of a run to a later one
  pub no_row_is_lost : (orders : List Brought) (i j : ℕ) → i ≤ j → Within (rows_before d gone orders i) (rows_before d gone orders j)
  no_row_is_lost orders i j h = rows_grow [] orders i j h

  module _ (sealed : Sealed d) where
    probe_kept : (rows : List Row) (t : Row) (work_list : List Walked) → RowsOfABook d gone rows → RowsOfABook d gone (probe_rows d gone rows t work_list)
    probe_kept rows t work_list kept =
        let after = probe_keeps d gone sealed rows kept.few kept.fit kept.once kept.rules t work_list in
        record { few = after.few; fit = after.fit; once = after.once; rules = after.rules }

    order_kept : (rows : List Row) (o : Brought) → RowsOfABook d gone rows → RowsOfABook d gone (rows_after d gone rows o)
    unfolding rows_after
    order_kept rows (judge r) kept = kept
    order_kept rows (probe r work_list plan) kept = probe_kept rows r work_list kept
    order_kept rows (offer list) kept = offer_kept rows list sealed kept
    order_kept rows (settle list) kept = settle_kept rows list sealed kept
    order_kept rows (write buffer) kept = kept

    run_kept : (rows : List Row) (orders : List Brought) → RowsOfABook d gone rows → RowsOfABook d gone (rows_run d gone rows orders)
    unfolding rows_run
    run_kept rows [] kept = kept
    run_kept rows (o ∷ orders) kept = run_kept (rows_after d gone rows o) orders (order_kept rows o kept)

    -- so at each place of a run on a new book
    pub kept_at : (orders : List Brought) (i : ℕ) → RowsOfABook d gone (rows_before d gone orders i)
    kept_at orders i = run_kept [] (take i orders) none_kept

    -- and over a lawful detector what the book calls dead there keeps the laws
    pub lawful_at : Lawful d gone → (orders : List Brought) (i : ℕ) → Lawful d (book_dead d gone (rows_before d gone orders i))
    lawful_at laws orders i = book_lawful d gone (rows_before d gone orders i) sealed (kept_at orders i).rules laws
