-- A part of a state: a row that has some of its entries.
use Rattle.std.specs.Prelude.{ℕ, Bool, not, ◌&&◌, Some, None, Option, is_some, option_map, find}
use Rattle.std.specs.List.{range_with_len}
use Rattle.std.specs.Option.{option_map_or}
use Rattle.model.specs.declared.row.Row.{Row}
use Rattle.model.specs.Rows.{at, open_row, with_entry, differ}

-- the lowest variable for which the test holds, if there is one
abbrev pub lowest : (ℕ → Bool) → Option ℕ
lowest test = find test (range_with_len 0 32)

-- the state s disagrees with the goal on the variable i
abbrev pub disagrees_on : Row → Row → ℕ → Bool
disagrees_on goal s i = differ (at s i) (at goal i)

abbrev pub lowest_disagreeing : Row → Row → Option ℕ
lowest_disagreeing goal s = lowest (disagrees_on goal s)

-- the variable i is missing: the state s gives it, and the part p does not
abbrev pub missing : Row → Row → ℕ → Bool
missing s p i = is_some (at s i) && not (is_some (at p i))

abbrev pub lowest_missing : Row → Row → Option ℕ
lowest_missing s p = lowest (missing s p)

-- the part p with this value of the variable i, if there is one
abbrev pub with_value : Row → ℕ → Option ℕ → Row
with_value p i None = p
with_value p i (Some v) = with_entry p i (Some v)

-- the part p with the state's entry of the variable i
abbrev pub with_entry_of : Row → Row → ℕ → Row
with_entry_of s p i = with_value p i (at s i)

-- what a state keeps at first: the lowest variable on which it disagrees with the goal
unfoldable pub first_part : Row → Row → Row
first_part goal s = option_map_or (λ i. with_entry_of s open_row i) (lowest_disagreeing goal s) open_row

-- the part p of the state s with its lowest missing variable, if one is missing
unfoldable pub regained : Row → Row → Option Row
regained s p = option_map (λ i. with_entry_of s p i) (lowest_missing s p)
