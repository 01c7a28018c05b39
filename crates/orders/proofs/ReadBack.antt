-- A book that was written is read back: its list passes as an offer to a new book, which then judges every row alike.
use Rattle.std.proofs.Common.{◌≡◌, ℕ, ◌+◌, ◌≤◌, Bool, true, false, List, [], ◌∷◌, ◌++◌, length, take, drop, is_ok, Ok, Result, nat_le, refl, sym, ap, ◌∙◌, subst, arith}
use Rattle.std.specs.Cmp.{decided}
use Rattle.std.proofs.Math.Seq.{take-append_seam}
use Rattle.std.proofs.lemmas.Bool.{cond_both, cond-true, cond-false, or_parts}
use Rattle.std.proofs.lemmas.List.{append_assoc}
use Rattle.first_come.specs.Arrivals.{has, Distinct}
use Rattle.first_come.proofs.Arrivals.{has_both}
use Rattle.refusal.specs.declared.Refusal.{Refusal}
use Rattle.model.specs.declared.row.Row.{Row}
use Rattle.model.specs.Rows.{same_row}
use Rattle.model.specs.SameRows.{same_row_decides}
use Rattle.model.specs.Records.{ModelRecord, Sealed, row_of_model}
use Rattle.lists.proofs.Members.{all_among}
use Rattle.detector.specs.Laws.{EqualMeaning}
use Rattle.rules.proofs.RuleLaws.{rules_told}
use Rattle.hand.specs.ReadBack.{WrittenRowsReadBack}
use Rattle.hand.proofs.ReadBack.{rows_read_back}
use Rattle.book.specs.Adding.{fresh}
use Rattle.book.specs.Offers.{offer_checked}
use Rattle.book.specs.Written.{rows_written, buffer_after}
use Rattle.book.proofs.OfferLaws.{passes_offer, answer_given}
use Rattle.book.proofs.SameDeadRows.{judge_alike, offer_alike, offer_leaves_alike}
use Rattle.orders.specs.Orders.{Brought, judge, offer, write, judged, offered, wrote}
use Rattle.orders.specs.Runs.{told_by, told_with_row, answer, rows_after, left_of, left_run, answers_run}
use Rattle.orders.specs.WholeRuns.{rows_before, ReadsBack, WrittenBooksReadBack}
use Rattle.orders.proofs.Kept.{RowsOfABook, kept_at}
use Rattle.orders.proofs.Runs.{told_at, left_so}

-- a row is not the same as one before it
none_before : (before : List Row) (r : Row) (behind : List Row) → Distinct same_row (before ++ r ∷ behind) → has same_row before r ≡ false
none_before [] r behind apart = refl
none_before (x ∷ before) r behind apart =
    let later = or_parts (has same_row before x) (has same_row (r ∷ behind) x) (sym (has_both same_row before (r ∷ behind) x) ∙ apart.0) in
    let other = (or_parts (same_row r x) (has same_row behind x) later.1).0 in
    let laws = decided same_row same_row_decides in
    rw (laws.symm x r ∙ other) (none_before before r behind apart.1)

-- so of rows that are distinct none is held already
all_fresh : (rows list : List Row) → Distinct same_row (rows ++ list) → fresh rows list ≡ list
unfolding fresh
all_fresh rows [] apart = refl
all_fresh rows (r ∷ rs) apart =
    cond-false (has same_row rows r) (fresh rows rs) (r ∷ fresh (rows ++ r ∷ []) rs) (none_before rows r rs apart)
    ∙ ap (λ (l : List Row). r ∷ l) (all_fresh (rows ++ r ∷ []) rs (subst (Distinct same_row) (sym (append_assoc rows (r ∷ []) rs)) apart))

module _ (d : ModelRecord) (gone : Row → Bool) (sealed : Sealed d) (rows : List Row) (kept : RowsOfABook d gone rows) where
  all_are_new : fresh [] rows ≡ rows
  all_are_new = all_fresh [] rows kept.once

  passes : is_ok (offer_checked d gone [] rows) ≡ true
  passes = passes_offer d gone [] rows (record {
    at_most_256_in_the_list = kept.few;
    rows_of_the_model = λ r a. all_among (row_of_model d) rows r kept.fit a;
    both_rules = rules_told d gone rows kept.rules;
    at_most_256_in_the_book = subst (λ (l : List Row). 0 + length l ≤ 256) (sym all_are_new) (let few = kept.few in omega arith);
  })

  -- the rows of a book, offered to a new one, pass and are added
  passes_and_adds_all : answer d gone [] (offer rows) ≡ offered (length rows)
  unfolding answer
  passes_and_adds_all =
      ap (told_with_row offered) (answer_given (offer_checked d gone [] rows) (Ok (length (fresh [] rows))) passes)
      ∙ ap (λ (l : List Row). offered (length l)) all_are_new

  same_rows : rows_after d gone [] (offer rows) ≡ rows
  unfolding rows_after
  same_rows = cond-true (is_ok (offer_checked d gone [] rows)) (fresh [] rows) [] passes ∙ all_are_new

  -- and over a detector of equal meaning they do too
  module _ (e : ModelRecord) (dead_too : Row → Bool) (equal : EqualMeaning d e gone dead_too) where
    passes_too : answer e dead_too [] (offer rows) ≡ offered (length rows)
    unfolding answer
    passes_too =
        subst (λ m. answer m dead_too [] (offer rows) ≡ offered (length rows)) equal.same_model
        (ap (told_with_row offered) (sym (offer_alike d gone dead_too equal.same_dead_rows sealed [] rows)) ∙ passes_and_adds_all)

    judges_alike : (t : Row) → answer e dead_too (rows_after e dead_too [] (offer rows)) (judge t) ≡ answer d gone rows (judge t)
    unfolding answer rows_after
    judges_alike t =
        subst (λ m. answer m dead_too (rows_after m dead_too [] (offer rows)) (judge t) ≡ answer d gone rows (judge t)) equal.same_model
        (ap (λ (l : List Row). answer d dead_too l (judge t)) (sym (offer_leaves_alike d gone dead_too equal.same_dead_rows sealed [] rows) ∙ same_rows)
        ∙ ap (told_by judged) (sym (judge_alike d gone dead_too equal.same_dead_rows rows t)))

  reads_back : ReadsBack d gone rows (rows_written rows)
  unfolding WrittenRowsReadBack
  reads_back = record {
    list = rows;
    is_offered = rows_read_back d rows kept.fit kept.few;
    passes_and_adds_all = passes_too;
    judges_the_same = judges_alike;
  }

  -- the front of a buffer into which the book was written
  module _ (before : List ℕ) (n : ℕ) where
    abbrev bytes : List ℕ
    bytes = rows_written rows

    has_room : answer d gone rows (write before) ≡ wrote n → (nat_le (length bytes) (length before) ≡ true) × (length bytes ≡ n)
    unfolding answer
    has_room =
        cond_both (nat_le (length bytes) (length before)) _ _ (λ (a : Result ℕ Refusal). told_by wrote a ≡ wrote n → (nat_le (length bytes) (length before) ≡ true) × (length bytes ≡ n))
        (λ room e. (room, cc)) (λ _ e. absurd (cc))

    in_front : answer d gone rows (write before) ≡ wrote n → take n (buffer_after before rows) ≡ bytes
    in_front e =
        let room = has_room e in
        ap (take n) (cond-true (nat_le (length bytes) (length before)) (bytes ++ drop (length bytes) before) before room.0)
        ∙ ap (λ k. take k (bytes ++ drop (length bytes) before)) (sym room.1)
        ∙ take-append_seam bytes (drop (length bytes) before)

    written : answer d gone rows (write before) ≡ wrote n → let front = take n (buffer_after before rows) in (length front ≡ n) × ReadsBack d gone rows front
    written e =
        let front = in_front e in
        (ap (λ (l : List ℕ). length l) front ∙ (has_room e).1, subst (ReadsBack d gone rows) (sym front) reads_back)

module _ (d : ModelRecord) (gone : Row → Bool) (sealed : Sealed d) (orders : List Brought) where
  pub written_books_read_back : WrittenBooksReadBack d gone orders (left_run d gone [] orders) (answers_run d gone [] orders)
  unfolding left_of
  written_books_read_back i before order n answered =
      let rows = rows_before d gone orders i in
      let reads = written d gone sealed rows (kept_at d gone sealed orders i) before n (told_at d gone orders i (write before) order (wrote n) answered) in
      (buffer_after before rows, left_so d gone orders i (write before) order, reads.0, reads.1)
