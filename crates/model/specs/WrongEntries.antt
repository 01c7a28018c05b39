-- The first wrong entry of a row, by rising variable: one that a row of the model may not have. Only why it is wrong is told, and not which one it is.
use Rattle.std.specs.Prelude.{◌≡◌, ℕ, zero, suc, ◌+◌, cond, is_ok, List, length, Some, None, Option, Ok, Err, nat_lt}
use Rattle.std.specs.Result.{result_and}
use Rattle.refusal.specs.declared.Refusal.TheVariants.{NoSuchVariable, ValueTooLarge}
use Rattle.model.specs.declared.row.Row.{Row}
use Rattle.model.specs.declared.variable.Variable.{Variable}
use Rattle.model.specs.Limits.{size_at, row_fits}
use Rattle.model.specs.Rows.{at}
use Rattle.model.specs.Tables.{Answer}

-- a value of the variable i is wrong where there is no such variable, and where the value is not below its size
abbrev pub value_checked : List Variable → ℕ → Option ℕ → Answer
value_checked vs i None = Ok tt
value_checked vs i (Some v) = cond (nat_lt i (length vs)) (cond (nat_lt v (size_at vs i)) (Ok tt) (Err ValueTooLarge)) (Err NoSuchVariable)

-- of the answers to n numbers from i on the first that refuses: only why it does, and not at which number
unfoldable pub first_refusal : (ℕ → Answer) → ℕ → ℕ → Answer
first_refusal f i zero = Ok tt
first_refusal f i (suc n) = result_and (f i) (first_refusal f (i + 1) n)

-- the row is one of the model's, or why its first wrong entry is wrong
abbrev pub row_checked : List Variable → Row → Answer
row_checked vs row = first_refusal (λ i. value_checked vs i (at row i)) 0 32

-- no entry is wrong exactly if the row is one of the model's
unfoldable pub RowsWithoutWrongEntriesFit : Type 0
RowsWithoutWrongEntriesFit = (vs : List Variable) (row : Row) → is_ok (row_checked vs row) ≡ row_fits vs row
