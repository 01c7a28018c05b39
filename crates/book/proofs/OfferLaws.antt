-- What an offer asks, in words, and what it adds.
use Rattle.std.proofs.Common.{◌≡◌, ℕ, ◌+◌, ◌≤◌, Bool, true, false, cond, ◌&&◌, List, [], ◌∷◌, ◌++◌, length, is_ok, Some, None, Option, Ok, Err, Result, nat_lt, sym, refl, ap, ap₂, ◌∙◌, subst, inl, inr, ⊎_elim, arith}
use Rattle.std.proofs.lemmas.Bool.{cond_both, or_cases, false≢true}
use Rattle.std.proofs.lemmas.Bool.Decides.{nat_tests}
use Rattle.std.proofs.lemmas.List.{append_assoc, append-nil}
use Rattle.std.specs.Cmp.{decided}
use Rattle.std.specs.List.{list_all}
use Rattle.std.specs.Option.{is_none}
use Rattle.std.specs.Result.{result_and}
use Rattle.refusal.specs.declared.Refusal.{Refusal}
use Rattle.refusal.specs.declared.Refusal.TheVariants.{BookFull, TooMany, MeetsGoal, LeadsOut}
use Rattle.first_come.specs.Arrivals.{has, Distinct}
use Rattle.first_come.proofs.Arrivals.{distinct_push}
use Rattle.model.specs.declared.row.Row.{Row}
use Rattle.model.specs.declared.variable.Variable.{Variable}
use Rattle.model.specs.Limits.{row_fits}
use Rattle.lists.specs.Members.{Among, Within}
use Rattle.model.specs.Records.{ModelRecord, row_of_model}
use Rattle.model.specs.Rows.{same_row}
use Rattle.model.specs.SameRows.{same_row_decides}
use Rattle.model.specs.Tables.{Answer}
use Rattle.model.specs.WrongEntries.{row_checked, RowsWithoutWrongEntriesFit}
use Rattle.lists.proofs.Members.{all_among, among_left, among_right, among_cases, all_from, all_both}
use Rattle.model.proofs.WrongEntries.{checked_rows_fit, ok_both}
use Rattle.book.specs.declared.refused.Refused.{Refused}
use Rattle.book.specs.Adding.{fresh, room_checked}
use Rattle.book.specs.Laws.{TogetherTheyKeepTheRulesAndFit, PassesExactly}
use Rattle.book.specs.Offers.{length_checked, in_row, entries_checked, list_checked, rule_1_checked, rule_2_checked, rows_checked, offer_checked, offer_answer}
use Rattle.book.specs.Refusals.{Checked, refused, unless_row, unless_step}
use Rattle.rules.specs.Rules.{keeps_rule_1, stays_in, keeps_rule_2, keeps_rules}
use Rattle.lists.specs.Searches.{first_failing, first_failing_pair, or_later}
use Rattle.book.specs.Settles.{left_unmarked, settle_checked}
use Rattle.rules.proofs.RuleLaws.{rules_at, rules_from, rules_told, rules_hold, rules_by_members, rule_2_in_more}

-- checks one after another
module _ {U : Type 0} where
  pub ok_parts : (a : Checked) (b : Result U Refused) → is_ok (result_and a b) ≡ true → (is_ok a ≡ true) × (is_ok b ≡ true)
  ok_parts (Ok x) b h = (refl, h)
  ok_parts (Err e) b h = absurd (false≢true h)

  pub ok_from : (a : Checked) (b : Result U Refused) → is_ok a ≡ true → is_ok b ≡ true → is_ok (result_and a b) ≡ true
  ok_from (Ok x) b h k = k
  ok_from (Err e) b h k = absurd (false≢true h)

  -- where nothing stands against it, the answer is given
  pub answer_given : (a : Checked) (b : Result U Refused) → is_ok a ≡ true → result_and a b ≡ b
  answer_given (Ok x) b h = refl
  answer_given (Err e) b h = absurd (false≢true h)

-- a search finds nothing exactly if each item passes
none_where : (q : Bool) (n : ℕ) (later : Option ℕ) → is_none (cond q later (Some n)) ≡ (q && is_none later)
none_where true n later = refl
none_where false n later = refl

none_in_both : (n : ℕ) (here : Option ℕ) (later : Option (ℕ × ℕ)) → is_none (or_later n here later) ≡ (is_none here && is_none later)
none_in_both n None later = refl
none_in_both n (Some k) later = refl

none_failing : {X : Type 0} (test : X → Bool) (n : ℕ) (xs : List X) → is_none (first_failing test n xs) ≡ list_all test xs
unfolding first_failing
none_failing test n [] = refl
none_failing test n (x ∷ xs) = none_where (test x) n (first_failing test (n + 1) xs) ∙ ap (λ b. test x && b) (none_failing test (n + 1) xs)

none_failing_pair : {X Y : Type 0} (test : X → Y → Bool) (ys : List Y) (n : ℕ) (xs : List X) → is_none (first_failing_pair test ys n xs) ≡ list_all (λ x. list_all (test x) ys) xs
unfolding first_failing_pair
none_failing_pair test ys n [] = refl
none_failing_pair test ys n (x ∷ xs) =
    none_in_both n (first_failing (test x) 0 ys) (first_failing_pair test ys (n + 1) xs)
    ∙ ap₂ (λ a b. a && b) (none_failing (test x) 0 ys) (none_failing_pair test ys (n + 1) xs)

ok_unless_row : (why : Refusal) (found : Option ℕ) → is_ok (unless_row why found) ≡ is_none found
ok_unless_row why None = refl
ok_unless_row why (Some n) = refl

ok_unless_step : (why : Refusal) (found : Option (ℕ × ℕ)) → is_ok (unless_step why found) ≡ is_none found
ok_unless_step why None = refl
ok_unless_step why (Some p) = refl

-- so each check says what it asks
pub rule_1_says : (d : ModelRecord) (list : List Row) → is_ok (rule_1_checked d list) ≡ list_all (keeps_rule_1 d) list
rule_1_says d list = ok_unless_row MeetsGoal (first_failing (keeps_rule_1 d) 0 list) ∙ none_failing (keeps_rule_1 d) 0 list

pub rule_2_says : (d : ModelRecord) (dead : Row → Bool) (set list : List Row) → is_ok (rule_2_checked d dead set list) ≡ list_all (keeps_rule_2 d dead set) list
unfolding keeps_rule_2
rule_2_says d dead set list = ok_unless_step LeadsOut (first_failing_pair (stays_in dead set) d.moves 0 list) ∙ none_failing_pair (stays_in dead set) d.moves 0 list

ok_in_row : (n : ℕ) (a : Answer) → is_ok (in_row n a) ≡ is_ok a
ok_in_row n (Ok x) = refl
ok_in_row n (Err why) = refl

pub entries_say : (vs : List Variable) (n : ℕ) (list : List Row) → is_ok (entries_checked vs n list) ≡ list_all (row_fits vs) list
unfolding entries_checked RowsWithoutWrongEntriesFit
entries_say vs n [] = refl
entries_say vs n (r ∷ rs) =
    ok_both (in_row n (row_checked vs r)) (entries_checked vs (n + 1) rs)
    ∙ ap₂ (λ a b. a && b) (ok_in_row n (row_checked vs r) ∙ checked_rows_fit vs r) (entries_say vs (n + 1) rs)

at_most : (n : ℕ) (why : Refused) → is_ok (cond {A = Checked} (nat_lt 256 n) (Err why) (Ok tt)) ≡ true → n ≤ 256
at_most n why h = grind (arith, nat_tests)

few_enough : (n : ℕ) (why : Refused) → n ≤ 256 → is_ok (cond {A = Checked} (nat_lt 256 n) (Err why) (Ok tt)) ≡ true
few_enough n why h = grind (arith, nat_tests)

pub short_list : (list : List Row) → is_ok (length_checked list) ≡ true → length list ≤ 256
short_list list h = at_most (length list) (refused TooMany) h

pub room_left : (rows list : List Row) → is_ok (room_checked rows list) ≡ true → length rows + length (fresh rows list) ≤ 256
room_left rows list h = at_most (length rows + length (fresh rows list)) (refused BookFull) h

-- the rows of a list that is checked are rows of the model
pub checked_fit : (vs : List Variable) (n : ℕ) (list : List Row) → is_ok (entries_checked vs n list) ≡ true → list_all (row_fits vs) list ≡ true
checked_fit vs n list h = sym (entries_say vs n list) ∙ h

pub list_fit : (d : ModelRecord) (list : List Row) → is_ok (list_checked d.variables list) ≡ true → list_all (row_of_model d) list ≡ true
list_fit d list h = checked_fit d.variables 0 list (ok_parts (length_checked list) (entries_checked d.variables 0 list) h).1

module _ (d : ModelRecord) (dead : Row → Bool) (rows list : List Row) where
  pub offer_fit : is_ok (offer_checked d dead rows list) ≡ true → list_all (row_of_model d) list ≡ true
  unfolding offer_checked
  offer_fit h = list_fit d list (ok_parts (list_checked d.variables list) _ (ok_parts (rows_checked d dead rows list) (room_checked rows list) h).0).0

  pub settle_fit : is_ok (settle_checked d dead rows list) ≡ true → list_all (row_of_model d) list ≡ true
  unfolding settle_checked
  settle_fit h = list_fit d list (ok_parts (list_checked d.variables list) (room_checked rows (left_unmarked d dead rows list)) h).0

has_among : (rows : List Row) (r : Row) → has same_row rows r ≡ true → Among rows r
has_among [] r h = absurd (false≢true h)
has_among (x ∷ xs) r h =
    ⊎_elim (λ same. inl ((same_row_decides x r).0 same)) (λ later. inr (has_among xs r later)) (or_cases (same_row x r) (has same_row xs r) h)

-- what is added comes from the list
pub fresh_from : (rows list : List Row) → Within (fresh rows list) list
unfolding fresh
fresh_from rows [] x a = a
fresh_from rows (r ∷ rs) x a =
    cond_both (has same_row rows r) (fresh rows rs) (r ∷ fresh (rows ++ r ∷ []) rs) (λ l. Among l x → Among (r ∷ rs) x)
    (λ _ later. inr (fresh_from rows rs x later))
    (λ _. ⊎_elim inl (λ later. inr (fresh_from (rows ++ r ∷ []) rs x later))) a

-- what is in the list is then held
pub fresh_held : (rows list : List Row) → Within list (rows ++ fresh rows list)
unfolding fresh
fresh_held rows [] x a = absurd a
fresh_held rows (r ∷ rs) x a =
    cond_both (has same_row rows r) (fresh rows rs) (r ∷ fresh (rows ++ r ∷ []) rs) (λ l. Among (rows ++ l) x)
    (λ held. ⊎_elim (λ (e : r ≡ x). among_left rows (fresh rows rs) x (subst (Among rows) e (has_among rows r held))) (fresh_held rows rs x) a)
    (λ _. ⊎_elim
    (λ (e : r ≡ x). among_right rows (r ∷ fresh (rows ++ r ∷ []) rs) x (inl e))
    (λ later. subst (λ l. Among l x) (append_assoc rows (r ∷ []) (fresh (rows ++ r ∷ []) rs)) (fresh_held (rows ++ r ∷ []) rs x later)) a)

-- and nothing twice
pub added_once : (rows list : List Row) → Distinct same_row rows → Distinct same_row (rows ++ fresh rows list)
unfolding fresh
added_once rows [] apart = subst (Distinct same_row) (sym (append-nil rows)) apart
added_once rows (r ∷ rs) apart =
    cond_both (has same_row rows r) (fresh rows rs) (r ∷ fresh (rows ++ r ∷ []) rs) (λ l. Distinct same_row (rows ++ l))
    (λ _. added_once rows rs apart)
    (λ new. subst (Distinct same_row) (append_assoc rows (r ∷ []) (fresh (rows ++ r ∷ []) rs))
    (added_once (rows ++ r ∷ []) rs (distinct_push same_row (decided same_row same_row_decides) rows r apart new)))

pub fresh_fit : (d : ModelRecord) (rows list : List Row) → list_all (row_of_model d) list ≡ true → list_all (row_of_model d) (fresh rows list) ≡ true
fresh_fit d rows list fit = all_from (row_of_model d) (fresh rows list) (λ r a. all_among (row_of_model d) list r fit (fresh_from rows list r a))

pub added_fit : (d : ModelRecord) (rows list : List Row) → list_all (row_of_model d) rows ≡ true → list_all (row_of_model d) list ≡ true → list_all (row_of_model d) (rows ++ fresh rows list) ≡ true
added_fit d rows list own fit = all_both (row_of_model d) rows (fresh rows list) own (fresh_fit d rows list fit)

-- the rows that are added and the whole list keep the rules alike
pub added_rules : (d : ModelRecord) (dead : Row → Bool) (rows list : List Row) → keeps_rules d dead (rows ++ list) ≡ true → keeps_rules d dead (rows ++ fresh rows list) ≡ true
added_rules d dead rows list =
    rules_by_members d dead (rows ++ list) (rows ++ fresh rows list)
    (λ r a. ⊎_elim (among_left rows (fresh rows list) r) (fresh_held rows list r) (among_cases rows list r a))
    (λ r a. ⊎_elim (among_left rows list r) (λ new. among_right rows list r (fresh_from rows list r new)) (among_cases rows (fresh rows list) r a))

module _ (d : ModelRecord) (dead : Row → Bool) (rows list : List Row) where
  -- rows that keep the rules, and a list that keeps them with these rows
  pub rules_together : keeps_rules d dead rows ≡ true → list_all (keeps_rule_1 d) list ≡ true → list_all (keeps_rule_2 d dead (rows ++ list)) list ≡ true → keeps_rules d dead (rows ++ list) ≡ true
  rules_together rules one two = rules_from d dead (rows ++ list) (λ r a. ⊎_elim
      (λ own. let kept = rules_at d dead rows rules r own in (kept.0, rule_2_in_more d dead rows r (rows ++ list) (among_left rows list) kept.1))
      (λ new. (all_among (keeps_rule_1 d) list r one new, all_among (keeps_rule_2 d dead (rows ++ list)) list r two new))
      (among_cases rows list r a))

  pub offer_passes : is_ok (offer_checked d dead rows list) ≡ true → keeps_rules d dead rows ≡ true → TogetherTheyKeepTheRulesAndFit d dead rows list
  unfolding offer_checked
  offer_passes h rules =
      let parts = ok_parts (rows_checked d dead rows list) (room_checked rows list) h in
      let both = result_and (rule_1_checked d list) (rule_2_checked d dead (rows ++ list) list) in
      let first = ok_parts (list_checked d.variables list) both parts.0 in
      let rules_1_2 = ok_parts (rule_1_checked d list) (rule_2_checked d dead (rows ++ list) list) first.1 in
      record {
        at_most_256_in_the_list = short_list list (ok_parts (length_checked list) (entries_checked d.variables 0 list) first.0).0;
        rows_of_the_model = λ r a. all_among (row_of_model d) list r (list_fit d list first.0) a;
        both_rules = rules_told d dead (rows ++ list) (rules_together rules (sym (rule_1_says d list) ∙ rules_1_2.0) (sym (rule_2_says d dead (rows ++ list) list) ∙ rules_1_2.1));
        at_most_256_in_the_book = room_left rows list parts.1;
      }

  pub passes_offer : TogetherTheyKeepTheRulesAndFit d dead rows list → is_ok (offer_checked d dead rows list) ≡ true
  unfolding offer_checked
  passes_offer fit =
      let own : (r : Row) → Among list r → (keeps_rule_1 d r ≡ true) × (keeps_rule_2 d dead (rows ++ list) r ≡ true)
      = λ r a. rules_at d dead (rows ++ list) (rules_hold d dead (rows ++ list) fit.both_rules) r (among_right rows list r a) in
      let listed = ok_from (length_checked list) (entries_checked d.variables 0 list) (few_enough (length list) (refused TooMany) fit.at_most_256_in_the_list) (entries_say d.variables 0 list ∙ all_from (row_of_model d) list fit.rows_of_the_model) in
      let one = rule_1_says d list ∙ all_from (keeps_rule_1 d) list (λ r a. (own r a).0) in
      let two = rule_2_says d dead (rows ++ list) list ∙ all_from (keeps_rule_2 d dead (rows ++ list)) list (λ r a. (own r a).1) in
      let room = few_enough (length rows + length (fresh rows list)) (refused BookFull) fit.at_most_256_in_the_book in
      ok_from (rows_checked d dead rows list) (room_checked rows list)
      (ok_from (list_checked d.variables list) (result_and (rule_1_checked d list) (rule_2_checked d dead (rows ++ list) list)) listed
      (ok_from (rule_1_checked d list) (rule_2_checked d dead (rows ++ list) list) one two))
      room

  -- what is answered is not refused exactly if nothing stands against it
  pub passes_exactly : keeps_rules d dead rows ≡ true → PassesExactly (is_ok (offer_answer d dead rows list)) d dead rows list
  passes_exactly rules = (
    (λ h. offer_passes (ok_parts (offer_checked d dead rows list) (Ok (length (fresh rows list))) h).0 rules),
    (λ fit. ok_from (offer_checked d dead rows list) (Ok (length (fresh rows list))) (passes_offer fit) refl),
  )

  pub offered_rules : keeps_rules d dead rows ≡ true → is_ok (offer_checked d dead rows list) ≡ true → keeps_rules d dead (rows ++ fresh rows list) ≡ true
  offered_rules rules h = added_rules d dead rows list (rules_hold d dead (rows ++ list) (offer_passes h rules).both_rules)
