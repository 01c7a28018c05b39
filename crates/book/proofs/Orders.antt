-- What an offer and a settle leave of a book: rows of the model, none of them twice, that keep both rules.
use Rattle.std.proofs.Common.{◌≡◌, ℕ, ◌+◌, Bool, true, cond, List, [], ◌∷◌, ◌++◌, length, take, is_ok, Some, None, Ok, Err, Result, refl, sym, ap, ◌∙◌, inl, inr}
use Rattle.std.specs.List.{list_all}
use Rattle.std.specs.Result.{result_and}
use Rattle.std.proofs.lemmas.Bool.{cond_both, true≢false}
use Rattle.std.proofs.lemmas.List.{take_all}
use Rattle.model.specs.declared.row.Row.{Row}
use Rattle.lists.specs.Members.{Among}
use Rattle.model.specs.Records.{ModelRecord, Sealed, row_of_model}
use Rattle.model.specs.Rows.{same_row}
use Rattle.lists.proofs.Members.{all_among}
use Rattle.first_come.specs.Arrivals.{Distinct}
use Rattle.book.specs.declared.refused.Refused.{Refused}
use Rattle.book.specs.declared.settled.Settled.{Settled}
use Rattle.book.specs.Adding.{fresh, room_checked}
use Rattle.book.specs.Laws.{StaysLawful}
use Rattle.book.specs.Offers.{length_checked, entries_checked, list_checked, rows_checked, offer_checked, offer_answer, offer_rows}
use Rattle.refusal.specs.declared.Refusal.TheVariants.{LeadsOut}
use Rattle.book.specs.Refusals.{Checked, refused_step}
use Rattle.rules.specs.Rules.{keeps_rule_1, keeps_rules, stays_in}
use Rattle.lists.specs.Searches.{first_failing, first_failing_pair}
use Rattle.settling.specs.Rounds.{left_of, rounds_for}
use Rattle.book.specs.Settles.{left_unmarked, rounds, settle_checked, settle_answer, settle_rows}
use Rattle.book.specs.Verdicts.{book_dead}
use Rattle.book.proofs.NoPlan.{stays_lawful}
use Rattle.book.proofs.OfferLaws.{ok_parts, short_list, list_fit, offer_fit, settle_fit, fresh_fit, added_fit, added_once, offered_rules}
use Rattle.book.proofs.InTheBook.{rule_2_in_the_book}
use Rattle.book.proofs.SettleLaws.{unmarked_fit, unmarked_rules}

-- A search finds alike by tests that agree.
module _ {Y : Type 0} where
  failing_alike : (f g : Y → Bool) (n : ℕ) (ys : List Y) → ((y : Y) → Among ys y → f y ≡ g y) → first_failing f n ys ≡ first_failing g n ys
  unfolding first_failing
  failing_alike f g n [] agree = refl
  failing_alike f g n (y ∷ ys) agree = rw (agree y (inl refl), failing_alike f g (n + 1) ys (λ z a. agree z (inr a)))

module _ {X Y : Type 0} where
  pub pairs_alike : (f g : X → Y → Bool) (ys : List Y) (n : ℕ) (xs : List X) → ((x : X) → Among xs x → (y : Y) → Among ys y → f x y ≡ g x y) → first_failing_pair f ys n xs ≡ first_failing_pair g ys n xs
  unfolding first_failing_pair
  pairs_alike f g ys n [] agree = refl
  pairs_alike f g ys n (x ∷ xs) agree = rw (failing_alike (f x) (g x) 0 ys (agree x (inl refl)), pairs_alike f g ys (n + 1) xs (λ z a. agree z (inr a)))

module _ (d : ModelRecord) (dead : Row → Bool) (rows list : List Row) (sealed : Sealed d) where
  -- the book finds for the list alone what the detector finds for the rows and the list
  pub leads_out_alike : list_all (row_of_model d) list ≡ true → first_failing_pair (stays_in (book_dead d dead rows) list) d.moves 0 list ≡ first_failing_pair (stays_in dead (rows ++ list)) d.moves 0 list
  leads_out_alike fit = pairs_alike (stays_in (book_dead d dead rows) list) (stays_in dead (rows ++ list)) d.moves 0 list (λ r a m b. rule_2_in_the_book d dead rows list sealed r (all_among (row_of_model d) list r fit a) m b)

  -- what is found by the book decides the check, behind the checks before it
  module _ (listed : list_checked d.variables list ≡ Ok tt) (apart : first_failing (keeps_rule_1 d) 0 list ≡ None) where
    fits : list_all (row_of_model d) list ≡ true
    fits = list_fit d list (ap is_ok listed)

    pub leads_out_refused : (n k : ℕ) → first_failing_pair (stays_in (book_dead d dead rows) list) d.moves 0 list ≡ Some (n, k) → Err (refused_step LeadsOut n k) ≡ rows_checked d dead rows list
    leads_out_refused n k found = let told = sym (leads_out_alike fits) ∙ found in rw (listed, apart, told)

    pub none_leads_out : first_failing_pair (stays_in (book_dead d dead rows) list) d.moves 0 list ≡ None → Ok tt ≡ rows_checked d dead rows list
    none_leads_out found = let told = sym (leads_out_alike fits) ∙ found in rw (listed, apart, told)

  module _ (fit : list_all (row_of_model d) rows ≡ true) (rules : keeps_rules d dead rows ≡ true) where
    pub offer_keeps_fit : list_all (row_of_model d) (offer_rows d dead rows list) ≡ true
    offer_keeps_fit = cond_both (is_ok (offer_checked d dead rows list)) (rows ++ fresh rows list) rows (λ l. list_all (row_of_model d) l ≡ true) (λ passes. added_fit d rows list fit (offer_fit d dead rows list passes)) (λ _. fit)

    pub offer_keeps_rules : keeps_rules d dead (offer_rows d dead rows list) ≡ true
    offer_keeps_rules = cond_both (is_ok (offer_checked d dead rows list)) (rows ++ fresh rows list) rows (λ l. keeps_rules d dead l ≡ true) (offered_rules d dead rows list rules) (λ _. rules)

    pub offer_stays_lawful : StaysLawful d dead rows (offer_rows d dead rows list)
    offer_stays_lawful = cond_both (is_ok (offer_checked d dead rows list)) (rows ++ fresh rows list) rows (StaysLawful d dead rows)
        (λ passes. stays_lawful d dead rows (fresh rows list) sealed (fresh_fit d rows list (offer_fit d dead rows list passes)) (offered_rules d dead rows list rules passes))
        (λ _ lawful. lawful)

    pub settle_keeps_fit : list_all (row_of_model d) (settle_rows d dead rows list) ≡ true
    settle_keeps_fit = cond_both (is_ok (settle_checked d dead rows list)) (rows ++ fresh rows (left_unmarked d dead rows list)) rows (λ l. list_all (row_of_model d) l ≡ true)
        (λ passes. added_fit d rows (left_unmarked d dead rows list) fit (unmarked_fit d dead rows list (settle_fit d dead rows list passes)))
        (λ _. fit)

    pub settle_keeps_the_rules : keeps_rules d dead (settle_rows d dead rows list) ≡ true
    settle_keeps_the_rules = cond_both (is_ok (settle_checked d dead rows list)) (rows ++ fresh rows (left_unmarked d dead rows list)) rows (λ l. keeps_rules d dead l ≡ true)
        (λ passes. unmarked_rules d dead rows list sealed (settle_fit d dead rows list passes) rules)
        (λ _. rules)

    pub settle_stays_lawful : StaysLawful d dead rows (settle_rows d dead rows list)
    settle_stays_lawful = cond_both (is_ok (settle_checked d dead rows list)) (rows ++ fresh rows (left_unmarked d dead rows list)) rows (StaysLawful d dead rows)
        (λ passes.
        let list_fits = settle_fit d dead rows list passes in
        stays_lawful d dead rows (fresh rows (left_unmarked d dead rows list)) sealed (fresh_fit d rows (left_unmarked d dead rows list) (unmarked_fit d dead rows list list_fits)) (unmarked_rules d dead rows list sealed list_fits rules))
        (λ _ lawful. lawful)

  module _ (once : Distinct same_row rows) where
    pub offer_keeps_once : Distinct same_row (offer_rows d dead rows list)
    offer_keeps_once = cond_both (is_ok (offer_checked d dead rows list)) (rows ++ fresh rows list) rows (Distinct same_row) (λ _. added_once rows list once) (λ _. once)

    pub settle_keeps_once : Distinct same_row (settle_rows d dead rows list)
    settle_keeps_once = cond_both (is_ok (settle_checked d dead rows list)) (rows ++ fresh rows (left_unmarked d dead rows list)) rows (Distinct same_row) (λ _. added_once rows (left_unmarked d dead rows list) once) (λ _. once)

-- the checks of an offer
module _ (d : ModelRecord) (dead : Row → Bool) (rows list : List Row) where
  -- refused before any row is added
  module _ (why : Refused) (stops : rows_checked d dead rows list ≡ Err why) where
    stopped : offer_checked d dead rows list ≡ Err why
    unfolding offer_checked
    stopped = rw stops refl

    pub offer_stopped : ◌≡◌ {A = Result ℕ Refused} (Err why) (offer_answer d dead rows list)
    offer_stopped = rw stopped refl

    pub offer_leaves : rows ≡ offer_rows d dead rows list
    offer_leaves = rw stopped refl

  -- or only the room is still asked
  module _ (passes : rows_checked d dead rows list ≡ Ok tt) where
    goes_on : offer_checked d dead rows list ≡ room_checked rows list
    unfolding offer_checked
    goes_on = rw passes refl

    pub offer_answers : result_and (room_checked rows list) (Ok (length (fresh rows list))) ≡ offer_answer d dead rows list
    offer_answers = rw goes_on refl

    pub offer_adds : cond (is_ok (room_checked rows list)) (rows ++ fresh rows list) rows ≡ offer_rows d dead rows list
    offer_adds = rw goes_on refl

ok_is_no_err : (n : ℕ) (why : Refused) → ◌≡◌ {A = Result ℕ Refused} (Ok n) (Err why) → ⊥
ok_is_no_err n why e = true≢false (ap is_ok e)

-- the checks of a settle
module _ (d : ModelRecord) (dead : Row → Bool) (rows list : List Row) where
  module _ (why : Refused) (stops : list_checked d.variables list ≡ Err why) where
    not_settled : settle_checked d dead rows list ≡ Err why
    unfolding settle_checked
    not_settled = rw stops refl

    pub settle_stopped : ◌≡◌ {A = Result Settled Refused} (Err why) (settle_answer d dead rows list)
    settle_stopped = rw not_settled refl

    pub settle_leaves : rows ≡ settle_rows d dead rows list
    settle_leaves = rw not_settled refl

  module _ (passes : list_checked d.variables list ≡ Ok tt) (left : List Row) (is : left ≡ left_unmarked d dead rows list) where
    room_asked : settle_checked d dead rows list ≡ room_checked rows left
    unfolding settle_checked
    room_asked = rw (passes, is) refl

    told : (n : ℕ) → n ≡ rounds d dead rows list → result_and (room_checked rows left) (Ok (record { added = length (fresh rows left); rounds = n })) ≡ settle_answer d dead rows list
    told n same = rw (room_asked, same, sym is) refl

    pub settle_answers : (n : ℕ) → n ≡ rounds d dead rows list → (added : ℕ) → Ok added ≡ result_and (room_checked rows left) (Ok (length (fresh rows left))) → ◌≡◌ {A = Result Settled Refused} (Ok (record { added = added; rounds = n })) (settle_answer d dead rows list)
    settle_answers n same added e = with_rounds (room_checked rows left) e ∙ told n same
      where
        with_rounds : (r : Checked) → Ok added ≡ result_and r (Ok (length (fresh rows left))) → ◌≡◌ {A = Result Settled Refused} (Ok (record { added = added; rounds = n })) (result_and r (Ok (record { added = length (fresh rows left); rounds = n })))
        with_rounds (Ok u) e = let same_number : added ≡ length (fresh rows left) = cc in rw same_number refl
        with_rounds (Err w) e = absurd (ok_is_no_err added w e)

    pub settle_full : (why : Refused) → Err why ≡ result_and (room_checked rows left) (Ok (length (fresh rows left))) → ◌≡◌ {A = Result Settled Refused} (Err why) (settle_answer d dead rows list)
    settle_full why e = as_refused (room_checked rows left) e ∙ told (rounds d dead rows list) refl
      where
        as_refused : (r : Checked) → Err why ≡ result_and r (Ok (length (fresh rows left))) → ◌≡◌ {A = Result Settled Refused} (Err why) (result_and r (Ok (record { added = length (fresh rows left); rounds = rounds d dead rows list })))
        as_refused (Ok u) e = absurd (ok_is_no_err (length (fresh rows left)) why (sym e))
        as_refused (Err w) e = let same_reason : why ≡ w = cc in rw same_reason refl

    pub settle_adds : cond (is_ok (room_checked rows left)) (rows ++ fresh rows left) rows ≡ settle_rows d dead rows list
    settle_adds = rw (room_asked, sym is) refl

-- what is left of candidates that are not too many is what is settled
module _ (d : ModelRecord) (dead : Row → Bool) (rows list : List Row) (listed : list_checked d.variables list ≡ Ok tt) where
  all_taken : take 256 list ≡ list
  all_taken = take_all 256 list (short_list list (ok_parts (length_checked list) (entries_checked d.variables 0 list) (ap is_ok listed)).0)

  pub left_are_unmarked : (left : List Row) → left ≡ left_of d (book_dead d dead rows) (take 256 list) → left ≡ left_unmarked d dead rows list
  unfolding left_unmarked
  left_are_unmarked left is = is ∙ ap (left_of d (book_dead d dead rows)) all_taken

  pub rounds_are_counted : (n : ℕ) → n ≡ rounds_for d (book_dead d dead rows) (take 256 list) → n ≡ rounds d dead rows list
  unfolding rounds
  rounds_are_counted n is = is ∙ ap (rounds_for d (book_dead d dead rows)) all_taken
