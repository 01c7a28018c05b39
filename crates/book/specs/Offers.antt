-- What an offer answers, and the rows that it leaves.
use Rattle.std.specs.Prelude.{ℕ, ◌+◌, Bool, cond, List, [], ◌∷◌, ◌++◌, length, is_ok, Ok, Err, Result, nat_lt}
use Rattle.std.specs.Result.{result_and}
use Rattle.refusal.specs.declared.Refusal.TheVariants.{TooMany, MeetsGoal, LeadsOut}
use Rattle.model.specs.declared.row.Row.{Row}
use Rattle.model.specs.declared.variable.Variable.{Variable}
use Rattle.model.specs.Records.{ModelRecord}
use Rattle.model.specs.Tables.{Answer}
use Rattle.model.specs.WrongEntries.{row_checked}
use Rattle.book.specs.declared.refused.Refused.{Refused}
use Rattle.lists.specs.Searches.{first_failing, first_failing_pair}
use Rattle.rules.specs.Rules.{keeps_rule_1, stays_in}
use Rattle.book.specs.Refusals.{Checked, refused, refused_row, unless_row, unless_step}
use Rattle.book.specs.Adding.{fresh, room_checked}

-- 4: the list has more than 256 rows
abbrev pub length_checked : List Row → Checked
length_checked list = cond (nat_lt 256 (length list)) (Err (refused TooMany)) (Ok tt)

-- a refusal of a row's entries, with the row's place n
abbrev pub in_row : ℕ → Answer → Checked
in_row n (Ok done) = Ok tt
in_row n (Err why) = Err (refused_row why n)

-- 6 or 7: the first wrong entry, by rows in list order, counted from n, and then by rising variable
unfoldable pub entries_checked : List Variable → ℕ → List Row → Checked
entries_checked vs n [] = Ok tt
entries_checked vs n (r ∷ rs) = result_and (in_row n (row_checked vs r)) (entries_checked vs (n + 1) rs)

-- what is asked of any list
abbrev pub list_checked : List Variable → List Row → Checked
list_checked vs list = result_and (length_checked list) (entries_checked vs 0 list)

-- 12: the lowest row that breaks rule 1
abbrev pub rule_1_checked : ModelRecord → List Row → Checked
rule_1_checked d list = unless_row MeetsGoal (first_failing (keeps_rule_1 d) 0 list)

-- 13: the lowest row that breaks rule 2 in the set, and of its moves the lowest that leads out
abbrev pub rule_2_checked : ModelRecord → (Row → Bool) → List Row → List Row → Checked
rule_2_checked d dead set list = unless_step LeadsOut (first_failing_pair (stays_in dead set) d.moves 0 list)

-- all of that but the room, where the book has these rows
abbrev pub rows_checked : ModelRecord → (Row → Bool) → List Row → List Row → Checked
rows_checked d dead rows list = result_and (list_checked d.variables list) (result_and (rule_1_checked d list) (rule_2_checked d dead (rows ++ list) list))

-- The list is refused, or the book's rows and the list together keep both rules and fit.
unfoldable pub offer_checked : ModelRecord → (Row → Bool) → List Row → List Row → Checked
offer_checked d dead rows list = result_and (rows_checked d dead rows list) (room_checked rows list)

-- the number of rows added
abbrev pub offer_answer : ModelRecord → (Row → Bool) → List Row → List Row → Result ℕ Refused
offer_answer d dead rows list = result_and (offer_checked d dead rows list) (Ok (length (fresh rows list)))

-- the rows of the book afterwards; a refusal leaves them as they were
abbrev pub offer_rows : ModelRecord → (Row → Bool) → List Row → List Row → List Row
offer_rows d dead rows list = cond (is_ok (offer_checked d dead rows list)) (rows ++ fresh rows list) rows
