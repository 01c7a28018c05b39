-- The limits of a model: at most 32 variables of size 1 to 16, at most 128 moves, and values below their variable's size.
use Rattle.std.specs.Prelude.{ℕ, Bool, true, cond, ◌&&◌, List, [], length, is_some, Some, None, Option, nat_le, nat_lt, slice_index_or}
use Rattle.std.specs.List.{list_all}
use Rattle.model.specs.declared.row.Row.{Row}
use Rattle.model.specs.declared.moves.Move.{Move}
use Rattle.model.specs.declared.variable.Variable.{Variable}
use Rattle.lists.specs.Below.{all_below}
use Rattle.model.specs.Rows.{at}

abbrev pub no_variable : Variable
no_variable = record { name = []; size = 0 }

-- the size of the variable i; 0 where there is none, so that no value fits
abbrev pub size_at : List Variable → ℕ → ℕ
size_at vs i = (slice_index_or vs i no_variable).size

-- the size of the variable i, where there is one
abbrev pub size_of : List Variable → ℕ → Option ℕ
size_of vs i = cond (nat_lt i (length vs)) (Some (size_at vs i)) None

abbrev pub size_fits : ℕ → Bool
size_fits n = nat_lt 0 n && nat_le n 16

abbrev pub sizes_fit : List Variable → Bool
sizes_fit vs = list_all (λ v. size_fits v.size) vs

-- an entry of a variable of size n is open, or a value below n
abbrev pub entry_fits : ℕ → Option ℕ → Bool
entry_fits n None = true
entry_fits n (Some v) = nat_lt v n

-- a row over the variables: it gives only these, with values below their sizes
abbrev pub row_fits : List Variable → Row → Bool
row_fits vs row = all_below (λ i. entry_fits (size_at vs i) (at row i)) 32

abbrev pub move_fits : List Variable → Move → Bool
move_fits vs m = row_fits vs m.conditions && row_fits vs m.effects

abbrev pub moves_fit : List Variable → List Move → Bool
moves_fit vs ms = list_all (move_fits vs) ms

-- the row gives every variable
abbrev pub complete : List Variable → Row → Bool
complete vs row = all_below (λ i. is_some (at row i)) (length vs)
