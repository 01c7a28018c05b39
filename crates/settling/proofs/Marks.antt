-- Marks, and the rows that have none.
use Rattle.std.proofs.Common.{◌≡◌, ◌<◌, ◌≤◌, ℕ, suc, ◌+◌, length, subst, Bool, true, false, not, cond, ◌&&◌, ◌||◌, List, [], ◌∷◌, ◌++◌, map, take, set, get_or, refl, sym, ap, ◌∙◌, arith}
use Rattle.std.proofs.lemmas.Bool.{true≢false, false≢true}
use Rattle.std.proofs.lemmas.List.{take_more, take_more_set, map_more}
use Rattle.std.proofs.lemmas.List.Elements.{filter_map-append}
use mathlib.Core.List.{append-nil}
use Rattle.std.proofs.lemmas.List.Folds.{list_any_more}
use Rattle.std.specs.List.{filter, filter_map, list_all, list_any}
use Rattle.model.specs.declared.row.Row.{Row}
use Rattle.model.specs.Rows.{disagree}
use Rattle.model.specs.Records.{ModelRecord}
use Rattle.rules.specs.Rules.{keeps_rule_1, keeps_rule_2}
use Rattle.settling.specs.declared.candidate.Candidate.{Candidate}
use Rattle.settling.specs.Candidates.{after, at_start, marked_by, row_if_unmarked, unmarked}
use Rattle.settling.specs.Rounds.{after_round, after_rounds, marks_nothing, round_count, unmarked_at_start}
use Rattle.lists.proofs.Members.{filter_drops}
use Rattle.settling.proofs.Going.{Going, going_start, going_on, going_end}

was_false : (b : Bool) → not b ≡ false → b ≡ true
was_false true h = refl
was_false false h = absurd (true≢false h)

was_true : (b : Bool) → not b ≡ true → b ≡ false
was_true true h = absurd (false≢true h)
was_true false h = refl

pub unmarked_begun : (d : ModelRecord) (list : List Row) → unmarked (map (at_start d.goal) list) ≡ unmarked_at_start d list
unfolding unmarked
unmarked_begun d [] = refl
unmarked_begun d (r ∷ rs) = by_test (disagree r d.goal) (unmarked_begun d rs)
  where
    by_test : (b : Bool) → filter_map row_if_unmarked (map (at_start d.goal) rs) ≡ filter (keeps_rule_1 d) rs → filter_map row_if_unmarked (record { row = r; marked = not b } ∷ map (at_start d.goal) rs) ≡ cond b (r ∷ filter (keeps_rule_1 d) rs) (filter (keeps_rule_1 d) rs)
    by_test true later = ap (λ (l : List Row). r ∷ l) later
    by_test false later = later

module _ (d : ModelRecord) (calls : Row → Bool) (rows : List Row) where
  unmarked_behind : (cs : List Candidate) → unmarked (map (after d calls rows) cs) ≡ filter (keeps_rule_2 d calls rows) (unmarked cs)
  unfolding unmarked
  unmarked_behind [] = refl
  unmarked_behind (c ∷ cs) = by_test c.marked (keeps_rule_2 d calls rows c.row) refl (unmarked_behind cs)
    where
      by_test : (b k : Bool) → keeps_rule_2 d calls rows c.row ≡ k → filter_map row_if_unmarked (map (after d calls rows) cs) ≡ filter (keeps_rule_2 d calls rows) (filter_map row_if_unmarked cs) → filter_map row_if_unmarked (record { row = c.row; marked = b || (not b && not k) } ∷ map (after d calls rows) cs) ≡ filter (keeps_rule_2 d calls rows) (filter_map row_if_unmarked (record { row = c.row; marked = b } ∷ cs))
      by_test true k is later = later
      by_test false true is later = rw is (ap (λ (l : List Row). c.row ∷ l) later)
      by_test false false is later = rw is later

  marks_counted : (cs : List Candidate) → list_any (marked_by d calls rows) cs ≡ not (list_all (keeps_rule_2 d calls rows) (unmarked cs))
  unfolding unmarked
  marks_counted [] = refl
  marks_counted (c ∷ cs) = by_test c.marked (keeps_rule_2 d calls rows c.row) refl (marks_counted cs)
    where
      by_test : (b k : Bool) → keeps_rule_2 d calls rows c.row ≡ k → list_any (marked_by d calls rows) cs ≡ not (list_all (keeps_rule_2 d calls rows) (filter_map row_if_unmarked cs)) → ((not b && not k) || list_any (marked_by d calls rows) cs) ≡ not (list_all (keeps_rule_2 d calls rows) (filter_map row_if_unmarked (record { row = c.row; marked = b } ∷ cs)))
      by_test true k is later = later
      by_test false true is later = rw is later
      by_test false false is later = rw is refl

length_unmarked : (cs : List Candidate) → length (unmarked cs) ≤ length cs
unfolding unmarked
length_unmarked [] = omega arith
length_unmarked (c ∷ cs) = by_mark c.marked (length_unmarked cs)
  where
    by_mark : (b : Bool) → length (filter_map row_if_unmarked cs) ≤ length cs → length (filter_map row_if_unmarked (record { row = c.row; marked = b } ∷ cs)) ≤ suc (length cs)
    by_mark true fewer = omega (arith, fewer)
    by_mark false fewer = omega (arith, fewer)

-- a round goes on by one candidate
module _ (d : ModelRecord) (calls : Row → Bool) (rows : List Row) (begun : List Candidate) (i : ℕ) (c : Candidate) (within : i < length begun) (read : c ≡ get_or begun i c) where
  pub one_candidate_more : (now : List Candidate) (new : Candidate) → take i now ≡ map (after d calls rows) (take i begun) → i < length now → new ≡ after d calls rows c → take (i + 1) (set now i new) ≡ map (after d calls rows) (take (i + 1) begun)
  one_candidate_more now new so_far room is =
      take_more_set now i new room ∙ (λ k. so_far k ++ (is ∙ ap (after d calls rows) read) k ∷ []) ∙ sym (map_more (after d calls rows) begun i c within)

  pub one_answer_more : (any marks : Bool) → any ≡ list_any (marked_by d calls rows) (take i begun) → marks ≡ marked_by d calls rows c → (any || marks) ≡ list_any (marked_by d calls rows) (take (i + 1) begun)
  one_answer_more any marks so_far told =
      (λ k. so_far k || (told ∙ ap (marked_by d calls rows) read) k) ∙ sym (list_any_more (marked_by d calls rows) begun i c within)

-- A round that was made: it began with these candidates, and left those behind it.
module _ (d : ModelRecord) (calls : Row → Bool) (begun behind : List Candidate) (made : behind ≡ map (after d calls (unmarked begun)) begun) where
  left_by_round : unmarked behind ≡ after_round d calls (unmarked begun)
  unfolding after_round
  left_by_round = ap unmarked made ∙ unmarked_behind d calls (unmarked begun) begun

  module _ (marks : Bool) (told : marks ≡ list_any (marked_by d calls (unmarked begun)) begun) where
    marked_nothing : marks ≡ false → marks_nothing d calls (unmarked begun) ≡ true
    unfolding marks_nothing
    marked_nothing none = was_false _ (sym (marks_counted d calls (unmarked begun) begun) ∙ sym told ∙ none)

    marked_some : marks ≡ true → marks_nothing d calls (unmarked begun) ≡ false
    unfolding marks_nothing
    marked_some some = was_true _ (sym (marks_counted d calls (unmarked begun) begun) ∙ sym told ∙ some)

    pub fewer_unmarked : marks ≡ true → length (unmarked behind) < length (unmarked begun)
    unfolding marks_nothing after_round
    fewer_unmarked some = subst (λ (l : List Row). length l < length (unmarked begun)) (sym left_by_round) (filter_drops (keeps_rule_2 d calls (unmarked begun)) (unmarked begun) (marked_some some))

    module _ (most : ℕ) (first : List Row) (number : ℕ) (going : Going d calls most first (unmarked begun) number) where
      pub round_goes_on : marks ≡ true → Going d calls most first (unmarked behind) (number + 1)
      round_goes_on some = subst (λ (l : List Row). Going d calls most first l (number + 1)) (sym left_by_round) (going_on d calls most first (unmarked begun) number (marked_some some) going)

      pub last_round_leaves : marks ≡ false → unmarked behind ≡ after_rounds d calls most first
      last_round_leaves none = left_by_round ∙ (going_end d calls most first (unmarked begun) number (marked_nothing none) going).0

      pub last_round_counts : marks ≡ false → number ≡ round_count d calls most first
      last_round_counts none = (going_end d calls most first (unmarked begun) number (marked_nothing none) going).1

pub unmarked_at_first : (d : ModelRecord) (calls : Row → Bool) (cs : List Candidate) → Going d calls (suc (length cs)) (unmarked cs) (unmarked cs) 1
unmarked_at_first d calls cs = going_start d calls (suc (length cs)) (unmarked cs) (omega (arith, length_unmarked cs))

-- the unmarked rows, candidate by candidate
pub none_unmarked : unmarked [] ≡ []
unfolding unmarked
none_unmarked = refl

module _ (cs : List Candidate) (i : ℕ) (c : Candidate) (within : i < length cs) (read : c ≡ get_or cs i c) where
  with_next : unmarked (take (i + 1) cs) ≡ unmarked (take i cs) ++ filter_map row_if_unmarked (c ∷ [])
  unfolding unmarked
  with_next = ap (filter_map row_if_unmarked) (take_more cs i c within ∙ ap (λ (x : Candidate). take i cs ++ x ∷ []) (sym read)) ∙ filter_map-append row_if_unmarked (take i cs) (c ∷ [])

  pub unmarked_copied : (front : List Row) (n : ℕ) → take n front ≡ unmarked (take i cs) → n < length front → c.marked ≡ false → take (n + 1) (set front n c.row) ≡ unmarked (take (i + 1) cs)
  unmarked_copied front n so_far room bare = take_more_set front n c.row room ∙ ap (λ (l : List Row). l ++ c.row ∷ []) so_far ∙ sym (with_next ∙ rw bare refl)

  pub marked_left : c.marked ≡ true → unmarked (take (i + 1) cs) ≡ unmarked (take i cs)
  marked_left marked = with_next ∙ rw marked (append-nil (unmarked (take i cs)))
