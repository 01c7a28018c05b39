-- The two rules that bind a set of rows, over a detector that carries the model d and calls the rows of `dead` dead.
use Rattle.std.specs.Prelude.{◌≡◌, ◌⊎◌, Bool, true, not, ◌&&◌, ◌||◌, List}
use Rattle.std.specs.List.{list_all, list_any}
use Rattle.model.specs.declared.row.Row.{Row}
use Rattle.model.specs.declared.moves.Move.{Move}
use Rattle.model.specs.Rows.{contained, disagree}
use Rattle.model.specs.Moves.{applicable, progression}
use Rattle.lists.specs.Members.{Among}
use Rattle.model.specs.Records.{ModelRecord}

-- one row of the set is contained in the row t
abbrev pub covers : List Row → Row → Bool
covers set t = list_any (λ r. contained r t) set

-- rule 1: the row disagrees with the goal
abbrev pub keeps_rule_1 : ModelRecord → Row → Bool
keeps_rule_1 d r = disagree r d.goal

-- the move is not applicable to the row, or its progression is called dead, or one row of the set is contained in the progression
abbrev pub stays_in : (Row → Bool) → List Row → Row → Move → Bool
stays_in dead set r m = not (applicable m r) || (dead (progression m r) || covers set (progression m r))

-- rule 2: no move leads out, that is, each move stays in
unfoldable pub keeps_rule_2 : ModelRecord → (Row → Bool) → List Row → Row → Bool
keeps_rule_2 d dead set r = list_all (stays_in dead set r) d.moves

-- each row of the set keeps both rules
unfoldable pub keeps_rules : ModelRecord → (Row → Bool) → List Row → Bool
keeps_rules d dead set = list_all (λ r. keeps_rule_1 d r && keeps_rule_2 d dead set r) set

-- The same in words.
pub record KeepsBothRules (d : ModelRecord) (dead : Row → Bool) (set : List Row) : Type 0 where
  pub each_row_disagrees_with_the_goal : (r : Row) → Among set r → disagree r d.goal ≡ true
  pub no_move_leads_out : (r : Row) → Among set r → (m : Move) → Among d.moves m → applicable m r ≡ true → (dead (progression m r) ≡ true) ⊎ ((s : Row) × Among set s × (contained s (progression m r) ≡ true))
