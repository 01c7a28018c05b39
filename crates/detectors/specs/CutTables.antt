-- The cuts that give a pattern's variables, by their numbers, and a table that tells which of them are cut off.
use Rattle.std.specs.Prelude.{ℕ, zero, suc, ◌/◌, ◌%◌, Bool, true, false, ◌&&◌, List, map, Some, None, Option, nat_lt}
use Rattle.std.specs.List.{range_with_len}
use Rattle.model.specs.declared.variable.Variable.{Variable}
use Rattle.model.specs.Limits.{size_at}
use Rattle.model.specs.Records.{ModelRecord}
use Rattle.detectors.specs.declared.pattern.cut.Cut.{Cut}
use Rattle.detectors.specs.declared.pattern.variables.Variables.{Variables}
use Rattle.detectors.specs.Cuts.{cut_of, cut_move}
use Rattle.detectors.specs.CutWalk.{cut_off}

-- the entry that a digit stands for
abbrev pub entry_at : ℕ → Option ℕ
entry_at zero = None
entry_at (suc v) = Some v

-- the cut that a number stands for
abbrev pub cut_at : ℕ → Cut
cut_at n = record { first = entry_at (n / 17 / 17 % 17); second = entry_at (n / 17 % 17); third = entry_at (n % 17) }

-- the entry is open where there is no variable, and else a value below the variable's size
abbrev pub value_of : List Variable → Option ℕ → Option ℕ → Bool
value_of vs None None = true
value_of vs None (Some y) = false
value_of vs (Some v) None = false
value_of vs (Some v) (Some y) = nat_lt y (size_at vs v)

-- the cut gives each of the variables, and no more
abbrev pub whole_cut : List Variable → Variables → Cut → Bool
whole_cut vs x t = value_of vs (Some x.first) t.first && (value_of vs x.second t.second && value_of vs x.third t.third)

abbrev pub dead_cut : ModelRecord → Variables → Cut → Bool
dead_cut d x t = whole_cut d.variables x t && cut_off (map (cut_move x) d.moves) (cut_of x d.goal) t

-- for each number whether its cut is dead
unfoldable pub cut_table : ModelRecord → Variables → List Bool
cut_table d x = map (λ n. dead_cut d x (cut_at n)) (range_with_len 0 4913)
