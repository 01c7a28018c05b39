-- Plans: lists of moves, by their numbers, that lead from a state to one that contains the goal.
use Rattle.std.specs.Prelude.{◌≡◌, ℕ, ◌≤◌, true, List, [], ◌∷◌, length, Some}
use Rattle.std.specs.List.{slice_get}
use Rattle.model.specs.declared.row.Row.{Row}
use Rattle.model.specs.declared.moves.Move.{Move}
use Rattle.model.specs.Rows.{contained}
use Rattle.model.specs.Moves.{applicable, progression}
use Rattle.model.specs.Records.{ModelRecord}

-- the moves, each applicable to the state then reached, lead from s to t
abbrev pub Leads : ModelRecord → Row → List ℕ → Row → Type 0
Leads d s [] t = s ≡ t
Leads d s (n ∷ ns) t = (m : Move) × (slice_get d.moves n ≡ Some m) × (applicable m s ≡ true) × Leads d (progression m s) ns t

-- they end in a state that contains the goal
abbrev pub Plan : ModelRecord → Row → List ℕ → Type 0
Plan d s ns = (t : Row) × Leads d s ns t × (contained d.goal t ≡ true)

-- a plan, and no plan has fewer moves
pub record ShortestPlan (d : ModelRecord) (s : Row) (ns : List ℕ) : Type 0 where
  pub is_a_plan : Plan d s ns
  pub none_is_shorter : (others : List ℕ) → Plan d s others → length ns ≤ length others
