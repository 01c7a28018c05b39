-- The candidates that a settle leaves unmarked are the largest selection that keeps the rules.
use Rattle.std.proofs.Common.{◌≡◌, ◌≤◌, Bool, true, List, ◌++◌, length, is_ok, Ok, Err, IfOk, sym, refl, ◌∙◌, subst, arith}
use Rattle.std.proofs.lemmas.Bool.{cond-true}
use Rattle.std.specs.List.{list_all}
use Rattle.std.specs.Result.{result_and}
use Rattle.model.specs.declared.row.Row.{Row}
use Rattle.lists.specs.Members.{Among, Within}
use Rattle.model.specs.Records.{ModelRecord, Sealed, row_of_model}
use Rattle.lists.proofs.Members.{all_among, all_from}
use Rattle.book.specs.declared.settled.Settled.{Settled}
use Rattle.book.specs.Adding.{fresh, room_checked}
use Rattle.book.specs.Laws.{SettlesTheLargestSelection}
use Rattle.book.specs.Offers.{length_checked, entries_checked, list_checked, offer_checked, offer_answer, offer_rows}
use Rattle.book.specs.Refusals.{Checked}
use Rattle.rules.specs.Rules.{keeps_rule_1, keeps_rule_2, keeps_rules, KeepsBothRules}
use Rattle.settling.specs.Laws.{LargestThatKeepsTheRules}
use Rattle.settling.specs.Rounds.{left_of}
use Rattle.settling.specs.Selections.{picked}
use Rattle.settling.proofs.Largest.{left_from, length_left, left_keeps_rules, left_is_largest}
use Rattle.book.specs.Settles.{left_unmarked, settle_checked, settle_answer, settle_rows}
use Rattle.book.specs.Verdicts.{book_dead}
use Rattle.book.proofs.NoPlan.{rules_in_the_book}
use Rattle.book.proofs.OfferLaws.{ok_parts, answer_given, short_list, room_left, settle_fit, added_rules, rules_together, offer_passes, passes_offer}
use Rattle.rules.proofs.RuleLaws.{rules_at, rules_told, rules_hold, rule_2_at, rule_2_from}
use Rattle.book.proofs.InTheBook.{rule_2_in_the_book}

-- what holds where nothing stands against it holds of what is then answered
if_answered : {Q : Type 0} (a : Checked) (told : Settled) → (is_ok a ≡ true → Q) → IfOk (result_and a (Ok told)) (λ _. Q)
if_answered (Ok u) told holds = holds refl
if_answered (Err why) told holds = tt

module _ (d : ModelRecord) (dead : Row → Bool) (rows list : List Row) where
  unmarked_largest : LargestThatKeepsTheRules d (book_dead d dead rows) list (left_unmarked d dead rows list)
  unfolding left_unmarked
  unmarked_largest = left_is_largest d (book_dead d dead rows) list

  unmarked_from : Within (left_unmarked d dead rows list) list
  unfolding left_unmarked
  unmarked_from = left_from d (book_dead d dead rows) list

  length_unmarked : length (left_unmarked d dead rows list) ≤ length list
  unfolding left_unmarked
  length_unmarked = length_left d (book_dead d dead rows) list

  unmarked_keep : (r : Row) → Among (left_unmarked d dead rows list) r → (keeps_rule_1 d r ≡ true) × (keeps_rule_2 d (book_dead d dead rows) (left_unmarked d dead rows list) r ≡ true)
  unfolding left_unmarked
  unmarked_keep = rules_at d (book_dead d dead rows) (left_of d (book_dead d dead rows) list) (left_keeps_rules d (book_dead d dead rows) list)

  pub unmarked_fit : list_all (row_of_model d) list ≡ true → list_all (row_of_model d) (left_unmarked d dead rows list) ≡ true
  unmarked_fit fit = all_from (row_of_model d) (left_unmarked d dead rows list) (λ r a. all_among (row_of_model d) list r fit (unmarked_from r a))

  pub settle_keeps_rules : Sealed d → list_all (row_of_model d) list ≡ true → keeps_rules d dead rows ≡ true → keeps_rules d dead (rows ++ left_unmarked d dead rows list) ≡ true
  settle_keeps_rules sealed fit rules =
      let new = left_unmarked d dead rows list in
      let base = book_dead d dead rows in
      rules_together d dead rows new rules (all_from (keeps_rule_1 d) new (λ r a. (unmarked_keep r a).0))
      (all_from (keeps_rule_2 d dead (rows ++ new)) new (λ r a. rule_2_from d dead (rows ++ new) r (λ m among.
      sym (rule_2_in_the_book d dead rows new sealed r (all_among (row_of_model d) new r (unmarked_fit fit) a) m among)
      ∙ rule_2_at d base new r (unmarked_keep r a).1 m among)))

  pub unmarked_rules : Sealed d → list_all (row_of_model d) list ≡ true → keeps_rules d dead rows ≡ true → keeps_rules d dead (rows ++ fresh rows (left_unmarked d dead rows list)) ≡ true
  unmarked_rules sealed fit rules = added_rules d dead rows (left_unmarked d dead rows list) (settle_keeps_rules sealed fit rules)

  -- rows that would pass as an offer keep the rules over the book
  offered_keep : Sealed d → keeps_rules d dead rows ≡ true → (chosen : List Row) → is_ok (offer_checked d dead rows chosen) ≡ true → KeepsBothRules d (book_dead d dead rows) chosen
  offered_keep sealed rules chosen passes =
      let fit = offer_passes d dead rows chosen passes rules in
      let fits = all_from (row_of_model d) chosen fit.rows_of_the_model in
      rules_told d (book_dead d dead rows) chosen (rules_in_the_book d dead rows chosen sealed fits (rules_hold d dead (rows ++ chosen) fit.both_rules))

  unmarked_passes : Sealed d → keeps_rules d dead rows ≡ true → is_ok (settle_checked d dead rows list) ≡ true → is_ok (offer_checked d dead rows (left_unmarked d dead rows list)) ≡ true
  unfolding settle_checked
  unmarked_passes sealed rules h =
      let new = left_unmarked d dead rows list in
      let parts = ok_parts (list_checked d.variables list) (room_checked rows new) h in
      let short = short_list list (ok_parts (length_checked list) (entries_checked d.variables 0 list) parts.0).0 in
      let fit = settle_fit d dead rows list h in
      passes_offer d dead rows new (record {
        at_most_256_in_the_list = omega (arith, short, length_unmarked);
        rows_of_the_model = λ r a. all_among (row_of_model d) new r (unmarked_fit fit) a;
        both_rules = rules_told d dead (rows ++ new) (settle_keeps_rules sealed fit rules);
        at_most_256_in_the_book = room_left rows new parts.1;
      })

  pub settles_the_largest : Sealed d → keeps_rules d dead rows ≡ true → is_ok (settle_checked d dead rows list) ≡ true → SettlesTheLargestSelection d dead rows list
  settles_the_largest sealed rules h =
      let largest = unmarked_largest in
      let at_places = largest.left_are_at_these_places in
      let new = left_unmarked d dead rows list in
      let passes = unmarked_passes sealed rules h in
      record {
        places = largest.places;
        one_for_each_candidate = largest.one_for_each_candidate;
        unmarked_are_at_these_places = at_places;
        would_have_passed =
            subst (λ (l : List Row). offer_answer d dead rows l ≡ Ok (length (fresh rows l))) at_places
            (answer_given (offer_checked d dead rows new) (Ok (length (fresh rows new))) passes);
        adding_the_same =
            subst (λ (l : List Row). offer_rows d dead rows l ≡ settle_rows d dead rows list) at_places
            (cond-true (is_ok (offer_checked d dead rows new)) (rows ++ fresh rows new) rows passes
            ∙ sym (cond-true (is_ok (settle_checked d dead rows list)) (rows ++ fresh rows new) rows h));
        others_lie_within = λ chosen passing. largest.others_lie_within chosen (offered_keep sealed rules (picked chosen list) passing);
      }

  -- and that is so of a settle that is answered
  pub largest_if_answered : Sealed d → keeps_rules d dead rows ≡ true → IfOk (settle_answer d dead rows list) (λ _. SettlesTheLargestSelection d dead rows list)
  largest_if_answered sealed rules = if_answered (settle_checked d dead rows list) _ (settles_the_largest sealed rules)
