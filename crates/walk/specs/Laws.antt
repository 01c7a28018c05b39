-- What a walk comes to, in words of plans and states.
use Rattle.std.specs.Prelude.{◌≡◌, ◌⊎◌, ℕ, ◌≤◌, Bool, true, List, length}
use Rattle.model.specs.declared.row.Row.{Row}
use Rattle.model.specs.declared.moves.Move.{Move}
use Rattle.model.specs.Rows.{disagree}
use Rattle.model.specs.Moves.{applicable, progression}
use Rattle.lists.specs.Members.{Among}
use Rattle.model.specs.Plans.{Plan}
use Rattle.model.specs.Records.{ModelRecord, Sealed, state_of_model}
use Rattle.detector.specs.Laws.{Lawful}
use Rattle.walk.specs.Walks.{WholeWalk, planned, exhausted, no_place, walk_from}
use Rattle.walk.specs.Answers.{states_of}

-- These are states of the model that disagree with its goal, and each move that is applicable to one leads to a row that is called dead or to one of them.
pub record ClosedUnderMoves (d : ModelRecord) (dead : Row → Bool) (states : List Row) : Type 0 where
  pub states_of_the_model : (s : Row) → Among states s → state_of_model d s ≡ true
  pub none_meets_the_goal : (s : Row) → Among states s → disagree s d.goal ≡ true
  pub no_move_leads_away : (s : Row) → Among states s → (m : Move) → Among d.moves m → applicable m s ≡ true → (dead (progression m s) ≡ true) ⊎ Among states (progression m s)

-- A walk from a state of the model, over at most `room` places.
pub record WalkTells (d : ModelRecord) (dead : Row → Bool) (room : ℕ) (start : Row) (w : WholeWalk) : Type 0 where
  -- what it found is a plan
  pub plan_found : (ns : List ℕ) → w.outcome ≡ planned ns → Plan d start ns
  -- and none is shorter, if no row that is called dead has one
  pub plan_is_shortest : Lawful d dead → (ns : List ℕ) → w.outcome ≡ planned ns → (others : List ℕ) → Plan d start others → length ns ≤ length others
  -- without a plan, what is listed is closed under the moves
  pub closed_without_plan : w.outcome ≡ exhausted → ClosedUnderMoves d dead (states_of w.listed)
  -- and there is no plan
  pub no_plan_left : Lawful d dead → w.outcome ≡ exhausted → (ns : List ℕ) → Plan d start ns → ⊥
  -- it is refused for want of a place only where every place is taken
  pub every_place_taken : w.outcome ≡ no_place → length w.listed ≡ room

unfoldable pub EveryWalkTells : Type 0
EveryWalkTells =
    (d : ModelRecord) (dead : Row → Bool) (room : ℕ) (start : Row)
    → Sealed d → state_of_model d start ≡ true → WalkTells d dead room start (walk_from d dead room start)
