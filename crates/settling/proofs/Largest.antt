-- What is left of candidates is their largest selection that keeps both rules.
use Rattle.std.proofs.Common.{◌≡◌, ℕ, zero, suc, ◌<◌, ◌≤◌, Bool, true, false, List, length, map, ◌&&◌, sym, refl, ap, ◌∙◌, subst, arith}
use Rattle.std.proofs.lemmas.Bool.{cond_both}
use Rattle.std.specs.List.{list_all, filter}
use Rattle.model.specs.declared.row.Row.{Row}
use Rattle.lists.specs.Members.{Among, Within}
use Rattle.model.specs.Records.{ModelRecord}
use Rattle.lists.proofs.Members.{all_among, filtered_from, filtered_among, filtered_twice, length_filtered, filter_drops}
use Rattle.rules.specs.Rules.{keeps_rule_1, keeps_rule_2, keeps_rules, KeepsBothRules}
use Rattle.rules.proofs.RuleLaws.{rules_at, rules_from, rules_told, rules_hold, rule_2_in_more}
use Rattle.settling.specs.Laws.{LargestThatKeepsTheRules}
use Rattle.settling.specs.Rounds.{unmarked_at_start, after_round, marks_nothing, after_rounds, most_rounds, left_of}
use Rattle.settling.specs.Selections.{picked, WithinPlaces}
use Rattle.settling.proofs.Picked.{picked_from, filter_picks, one_for_each, picked_within}

-- what is left is filtered from the list, by one test of its rows
pub record Filtered (list left : List Row) : Type 0 where
  pub test : Row → Bool
  pub is : left ≡ filter test list

module _ (d : ModelRecord) (calls : Row → Bool) where
  -- what holds of each round's rows holds of the last ones
  rounds_keep : (P : List Row → Type 0) → ((rs : List Row) → P rs → P (after_round d calls rs)) → (n : ℕ) (rs : List Row) → P rs → P (after_rounds d calls n rs)
  unfolding after_rounds
  rounds_keep P step zero rs h = h
  rounds_keep P step (suc n) rs h =
      cond_both (marks_nothing d calls rs) rs (after_rounds d calls n (after_round d calls rs)) P
      (λ _. h) (λ _. rounds_keep P step n (after_round d calls rs) (step rs h))

  round_drops : (rs : List Row) → marks_nothing d calls rs ≡ false → length (after_round d calls rs) < length rs
  unfolding marks_nothing after_round
  round_drops rs marks = filter_drops (keeps_rule_2 d calls rs) rs marks

  -- the last round marks nothing, if as many may be made as there are rows and one more
  rounds_end : (n : ℕ) (rs : List Row) → length rs < n → marks_nothing d calls (after_rounds d calls n rs) ≡ true
  unfolding after_rounds
  rounds_end zero rs short = absurd (omega arith)
  rounds_end (suc n) rs short =
      cond_both (marks_nothing d calls rs) rs (after_rounds d calls n (after_round d calls rs)) (λ l. marks_nothing d calls l ≡ true)
      (λ none. none) (λ marks. rounds_end n (after_round d calls rs) (omega (arith, short, round_drops rs marks)))

  -- rows of which a round marks nothing keep rule 2 with one another
  nothing_marked : (rs : List Row) → marks_nothing d calls rs ≡ true → list_all (keeps_rule_2 d calls rs) rs ≡ true
  unfolding marks_nothing
  nothing_marked rs none = none

  -- rows that keep rule 2 with one another are not marked
  round_spares : (chosen rs : List Row) → ((r : Row) → Among chosen r → keeps_rule_2 d calls chosen r ≡ true) → Within chosen rs → Within chosen (after_round d calls rs)
  unfolding after_round
  round_spares chosen rs keep within r a =
      filtered_among (keeps_rule_2 d calls rs) rs r (within r a) (rule_2_in_more d calls chosen r rs within (keep r a))

  round_from : (rs : List Row) → Within (after_round d calls rs) rs
  unfolding after_round
  round_from rs r a = (filtered_from (keeps_rule_2 d calls rs) rs r a).0

  round_filters : (list rs : List Row) → Filtered list rs → Filtered list (after_round d calls rs)
  unfolding after_round
  round_filters list rs own = record {
    test = λ r. own.test r && keeps_rule_2 d calls rs r;
    is = ap (filter (keeps_rule_2 d calls rs)) own.is ∙ filtered_twice own.test (keeps_rule_2 d calls rs) list;
  }

  module _ (list : List Row) where
    left_keep : (P : List Row → Type 0) → ((rs : List Row) → P rs → P (after_round d calls rs)) → P (unmarked_at_start d list) → P (left_of d calls list)
    left_keep P step h = rounds_keep P step (most_rounds list) (unmarked_at_start d list) h

    left_filtered : Filtered list (left_of d calls list)
    left_filtered = left_keep (Filtered list) (round_filters list) (record { test = keeps_rule_1 d; is = refl })

    pub left_from : Within (left_of d calls list) list
    left_from r a = (filtered_from left_filtered.test list r (subst (λ l. Among l r) left_filtered.is a)).0

    pub length_left : length (left_of d calls list) ≤ length list
    length_left = subst (λ (l : List Row). length l ≤ length list) (sym left_filtered.is) (length_filtered left_filtered.test list)

    left_rule_1 : (r : Row) → Among (left_of d calls list) r → keeps_rule_1 d r ≡ true
    left_rule_1 =
        left_keep (λ rs. (r : Row) → Among rs r → keeps_rule_1 d r ≡ true)
        (λ rs h r a. h r (round_from rs r a))
        (λ r a. (filtered_from (keeps_rule_1 d) list r a).1)

    left_rule_2 : list_all (keeps_rule_2 d calls (left_of d calls list)) (left_of d calls list) ≡ true
    left_rule_2 =
        nothing_marked (left_of d calls list)
        (rounds_end (most_rounds list) (unmarked_at_start d list) (omega (arith, length_filtered (keeps_rule_1 d) list)))

    pub left_keeps_rules : keeps_rules d calls (left_of d calls list) ≡ true
    left_keeps_rules =
        rules_from d calls (left_of d calls list) (λ r a. (left_rule_1 r a, all_among (keeps_rule_2 d calls (left_of d calls list)) (left_of d calls list) r left_rule_2 a))

    -- rows of the list that keep the rules are never marked
    spared : (chosen : List Row) → Within chosen list → KeepsBothRules d calls chosen → Within chosen (left_of d calls list)
    spared chosen within both =
        let keep = rules_at d calls chosen (rules_hold d calls chosen both) in
        left_keep (Within chosen) (λ rs. round_spares chosen rs (λ r a. (keep r a).1))
        (λ r a. filtered_among (keeps_rule_1 d) list r (within r a) (keep r a).0)

    -- so they are picked within the places of those that are left
    spared_places : (chosen : List Bool) → KeepsBothRules d calls (picked chosen list) → WithinPlaces list chosen (map left_filtered.test list)
    spared_places chosen both = picked_within left_filtered.test chosen list (λ r a.
        (filtered_from left_filtered.test list r (subst (λ l. Among l r) left_filtered.is (spared (picked chosen list) (picked_from chosen list) both r a))).1)

    pub left_is_largest : LargestThatKeepsTheRules d calls list (left_of d calls list)
    left_is_largest =
        let at_places : left_of d calls list ≡ picked (map left_filtered.test list) list = left_filtered.is ∙ filter_picks left_filtered.test list in
        record {
          places = map left_filtered.test list;
          one_for_each_candidate = one_for_each left_filtered.test list;
          left_are_at_these_places = at_places;
          keep_both_rules = subst (λ l. KeepsBothRules d calls l) at_places (rules_told d calls (left_of d calls list) left_keeps_rules);
          others_lie_within = spared_places;
        }

    pub largest_is_left : (left : List Row) → left ≡ left_of d calls list → LargestThatKeepsTheRules d calls list left
    largest_is_left left is = subst (λ l. LargestThatKeepsTheRules d calls list l) (sym is) left_is_largest
