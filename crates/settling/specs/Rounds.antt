-- The rounds of a settle. The candidates without a mark are told as a list, in their order.
use Rattle.std.specs.Prelude.{ℕ, zero, suc, Bool, cond, List, length}
use Rattle.std.specs.List.{list_all, filter}
use Rattle.model.specs.declared.row.Row.{Row}
use Rattle.model.specs.Records.{ModelRecord}
use Rattle.rules.specs.Rules.{keeps_rule_1, keeps_rule_2}

-- At the start the candidates that do not disagree with the goal are marked. Told here: the others, which are unmarked.
abbrev pub unmarked_at_start : ModelRecord → List Row → List Row
unmarked_at_start d list = filter (keeps_rule_1 d) list

-- In a round a candidate is marked if an applicable move has a progression that the book does not call dead and that contains no unmarked
-- candidate. `calls` says which rows the book calls dead, and the unmarked candidates are those with which the round began. Told here: those
-- that stay unmarked.
unfoldable pub after_round : ModelRecord → (Row → Bool) → List Row → List Row
after_round d calls unmarked = filter (keeps_rule_2 d calls unmarked) unmarked

-- the round marks nothing
unfoldable pub marks_nothing : ModelRecord → (Row → Bool) → List Row → Bool
marks_nothing d calls unmarked = list_all (keeps_rule_2 d calls unmarked) unmarked

-- the candidates that are unmarked after the round that marks nothing, of at most n rounds
unfoldable pub after_rounds : ModelRecord → (Row → Bool) → ℕ → List Row → List Row
after_rounds d calls zero unmarked = unmarked
after_rounds d calls (suc n) unmarked = cond (marks_nothing d calls unmarked) unmarked (after_rounds d calls n (after_round d calls unmarked))

-- and how many rounds that takes, the last one counted
unfoldable pub round_count : ModelRecord → (Row → Bool) → ℕ → List Row → ℕ
round_count d calls zero unmarked = 0
round_count d calls (suc n) unmarked = cond (marks_nothing d calls unmarked) 1 (suc (round_count d calls n (after_round d calls unmarked)))

-- each round but the last marks a candidate, so there is one round more than candidates at most
abbrev pub most_rounds : List Row → ℕ
most_rounds list = suc (length list)

-- the candidates that are left unmarked in the end
abbrev pub left_of : ModelRecord → (Row → Bool) → List Row → List Row
left_of d calls list = after_rounds d calls (most_rounds list) (unmarked_at_start d list)

-- and the rounds that this takes
abbrev pub rounds_for : ModelRecord → (Row → Bool) → List Row → ℕ
rounds_for d calls list = round_count d calls (most_rounds list) (unmarked_at_start d list)
