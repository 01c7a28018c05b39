-- What is learned of states, in the order in which they are listed: their parts, and how many entries these regain. The model is d, the detector calls the
-- rows of `dead` dead, and the book has these rows.
use Rattle.std.specs.Prelude.{ℕ, zero, suc, ◌*◌, Bool, not, cond, None, Option, List, [], ◌∷◌, ◌++◌, length, map, option_map}
use Rattle.std.specs.List.{position_from}
use Rattle.std.specs.Option.{option_map_or}
use Rattle.model.specs.declared.row.Row.{Row}
use Rattle.model.specs.Records.{ModelRecord}
use Rattle.rules.specs.Rules.{keeps_rule_2}
use Rattle.learning.specs.Parts.{first_part, regained}

abbrev pub first_parts : ModelRecord → List Row → List Row
first_parts d states = map (first_part d.goal) states

-- the lowest state whose part fails the test regains its lowest missing variable: the parts that are kept then; none where every part passes, and none
-- where that state has nothing missing
unfoldable pub regain_lowest : (Row → Bool) → List Row → List Row → Option (List Row)
regain_lowest test [] parts = None
regain_lowest test (s ∷ ss) [] = None
regain_lowest test (s ∷ ss) (p ∷ ps) =
    cond (test p) (option_map (λ more. p ∷ more) (regain_lowest test ss ps)) (option_map (λ more. more ∷ ps) (regained s p))

-- a state has at most 32 entries to regain
abbrev pub most_regained : List Row → ℕ
most_regained states = 32 * length states

module _ (d : ModelRecord) (dead : Row → Bool) (rows : List Row) where
  -- a part keeps rule 2 in the book's rows with all kept parts
  abbrev pub keeps_with : List Row → Row → Bool
  keeps_with parts p = keeps_rule_2 d dead (rows ++ parts) p

  -- the place of the lowest part that does not
  unfoldable pub first_affected : List Row → Option ℕ
  first_affected parts = position_from (λ p. not (keeps_with parts p)) 0 parts

  -- one entry more, if one is regained
  unfoldable pub regain_once : List Row → List Row → Option (List Row)
  regain_once states parts = regain_lowest (keeps_with parts) states parts

  -- While a kept part breaks rule 2 in the book's rows with all kept parts, the lowest listed state so affected regains its lowest missing variable; told
  -- here: the parts that are kept in the end, after at most n times. A state that is kept whole has nothing to regain, which ends it too; where the rows
  -- with the listed states keep the rules this never ends it (by the law LearnedPartsKeepTheRules).
  unfoldable pub regain : List Row → ℕ → List Row → List Row
  regain states zero parts = parts
  regain states (suc n) parts = option_map_or (λ more. regain states n more) (regain_once states parts) parts

  -- and how many entries are regained
  unfoldable pub regain_count : List Row → ℕ → List Row → ℕ
  regain_count states zero parts = 0
  regain_count states (suc n) parts = option_map_or (λ more. suc (regain_count states n more)) (regain_once states parts) 0

  -- the parts that are learned
  unfoldable pub learned : List Row → List Row
  learned states = regain states (most_regained states) (first_parts d states)

  -- how many entries they regained
  unfoldable pub entries_regained : List Row → ℕ
  entries_regained states = regain_count states (most_regained states) (first_parts d states)
