-- Rows, by the entry of each variable: a value, or open.
use Rattle.std.proofs.Common.{◌∙◌, length-set}
use Rattle.std.specs.Prelude.{ℕ, Bool, true, false, not, map, replicate, Some, None, Option, ◌==◌, slice_index_or, slice_set}
use Rattle.std.proofs.lemmas.List.{length-replicate}
use Rattle.std.specs.List.{range_with_len}
use Rattle.std.proofs.lemmas.List.FromFn.{length-map-range_with_len}
use Rattle.model.specs.declared.row.Row.{Row}
use Rattle.lists.specs.Below.{all_below, any_below}

-- the entry of the variable i; open where there is no such variable
abbrev pub at : Row → ℕ → Option ℕ
at row i = slice_index_or row.entries i None

-- the row whose entry of the variable i is f i
unfoldable pub row_of : (ℕ → Option ℕ) → Row
row_of f = record { entries = map f (range_with_len 0 32); full = length-map-range_with_len f 0 32 }

-- the row with the entry e everywhere
abbrev pub filled_row : Option ℕ → Row
filled_row e = record { entries = replicate 32 e; full = length-replicate {A = Option ℕ} 32 e }

-- the row that gives nothing
abbrev pub open_row : Row
open_row = filled_row None

-- the row with the entry e of the variable i
abbrev pub with_entry : Row → ℕ → Option ℕ → Row
with_entry row i e = record { entries = slice_set row.entries i e; full = length-set row.entries i e ∙ row.full }

-- if the first entry is given, the second is the same
abbrev pub keeps : Option ℕ → Option ℕ → Bool
keeps None t = true
keeps (Some v) None = false
keeps (Some v) (Some w) = w == v

-- both entries are given, with different values
abbrev pub differ : Option ℕ → Option ℕ → Bool
differ None t = false
differ (Some v) None = false
differ (Some v) (Some w) = not (v == w)

-- both entries are open, or both give the same value
abbrev pub same_entry : Option ℕ → Option ℕ → Bool
same_entry None None = true
same_entry None (Some w) = false
same_entry (Some v) None = false
same_entry (Some v) (Some w) = v == w

-- the row r is contained in the row t: t has every given entry of r
abbrev pub contained : Row → Row → Bool
contained r t = all_below (λ i. keeps (at r i) (at t i)) 32

-- the rows disagree: both give some variable, with different values
abbrev pub disagree : Row → Row → Bool
disagree r t = any_below (λ i. differ (at r i) (at t i)) 32

-- the rows have the same entries
abbrev pub same_row : Row → Row → Bool
same_row r t = all_below (λ i. same_entry (at r i) (at t i)) 32
