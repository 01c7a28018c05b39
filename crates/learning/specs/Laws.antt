-- What learned parts are worth.
use Rattle.std.specs.Prelude.{◌≡◌, ℕ, ◌+◌, Bool, true, None, List, [], ◌∷◌, ◌++◌, length, is_some}
use Rattle.std.specs.List.{filter}
use Rattle.model.specs.declared.row.Row.{Row}
use Rattle.model.specs.Rows.{contained}
use Rattle.model.specs.Records.{ModelRecord}
use Rattle.rules.specs.Rules.{KeepsBothRules}
use Rattle.learning.specs.Learns.{first_parts, regain_once, learned, entries_regained}

-- as many rows as states, and each is contained in the state at its place
abbrev pub PartsOf : List Row → List Row → Type 0
PartsOf [] [] = Unit {0}
PartsOf [] (p ∷ ps) = ⊥
PartsOf (s ∷ ss) [] = ⊥
PartsOf (s ∷ ss) (p ∷ ps) = (contained p s ≡ true) × PartsOf ss ps

-- Where the book's rows with whole states keep both rules, they do so with the parts that are learned of these.
unfoldable pub LearnedPartsKeepTheRules : Type 0
LearnedPartsKeepTheRules =
    (d : ModelRecord) (dead : Row → Bool) (rows states : List Row)
    → KeepsBothRules d dead (rows ++ states) → PartsOf states (learned d dead rows states) × KeepsBothRules d dead (rows ++ learned d dead rows states)

-- how many variables the row gives
abbrev pub given_by : Row → ℕ
given_by r = length (filter (λ e. is_some e) r.entries)

-- how many entries the rows have together
unfoldable pub entries_in : List Row → ℕ
entries_in [] = 0
entries_in (r ∷ rs) = given_by r + entries_in rs

-- The entries that are told are regained: for any states, the learned parts together have so many entries more than the parts at first.
unfoldable pub EntriesToldAreRegained : Type 0
EntriesToldAreRegained =
    (d : ModelRecord) (dead : Row → Bool) (rows states : List Row)
    → entries_in (learned d dead rows states) ≡ entries_in (first_parts d states) + entries_regained d dead rows states

-- And then none is left to regain, so that no bound cuts it off.
unfoldable pub NoneIsLeftToRegain : Type 0
NoneIsLeftToRegain = (d : ModelRecord) (dead : Row → Bool) (rows states : List Row) → regain_once d dead rows states (learned d dead rows states) ≡ None
