-- What is left of candidates, apart from how they are settled.
use Rattle.std.specs.Prelude.{◌≡◌, Bool, List, length}
use Rattle.model.specs.declared.row.Row.{Row}
use Rattle.model.specs.Records.{ModelRecord}
use Rattle.rules.specs.Rules.{KeepsBothRules}
use Rattle.settling.specs.Selections.{picked, WithinPlaces}

-- What is left of the list is its largest selection that keeps both rules, over a detector that carries the model d and calls the rows of `dead` dead:
-- taken by their places, the rows that are left keep them, and a choice of candidates that keep them takes none of the other places.
pub record LargestThatKeepsTheRules (d : ModelRecord) (dead : Row → Bool) (list left : List Row) : Type 0 where
  pub places : List Bool
  pub one_for_each_candidate : length places ≡ length list
  pub left_are_at_these_places : left ≡ picked places list
  pub keep_both_rules : KeepsBothRules d dead (picked places list)
  pub others_lie_within : (chosen : List Bool) → KeepsBothRules d dead (picked chosen list) → WithinPlaces list chosen places
