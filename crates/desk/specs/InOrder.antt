-- The commands of a sheet that opens stand in order: those of its model, which is what they write, and then that of its detector.
use Rattle.std.specs.Prelude.{◌≡◌, ℕ, Bool, true, false, cond, ◌||◌, List, [], ◌∷◌, ◌++◌, drop, ◌==◌, slice_index}
use Rattle.sheet.specs.Commands.{Item}
use Rattle.std.specs.List.{list_all}
use Rattle.model.specs.Records.{ModelRecord, blank, Sealed}
use Rattle.model.specs.Writing.{with_variable, with_move, with_condition, with_effect, with_start, with_goal}
use Rattle.detectors.specs.Choosing.{Chosen}
use Rattle.desk.specs.Openings.{Opened, unsealed, unchosen, orders}

abbrev pub one_of : List ℕ → ℕ → Bool
one_of [] b = false
one_of (c ∷ cs) b = b == c || one_of cs b

-- every command has one of these bytes
abbrev pub only : List ℕ → List Item → Bool
only bytes items = list_all (λ i. one_of bytes i.said.0) items

-- where there are any, the first has this byte
abbrev pub begins_with : ℕ → List Item → Bool
begins_with b [] = true
begins_with b (i ∷ is) = i.said.0 == b

-- what a command with the byte b and these operands writes, where it is not refused
abbrev pub written_by : ℕ → List ℕ → ModelRecord → ModelRecord
written_by b vs d =
    cond (b == 0x56) (with_variable d (slice_index vs 0) (drop 1 vs))
    (cond (b == 0x41) (with_move d vs)
    (cond (b == 0x50) (with_condition d (slice_index vs 0) (slice_index vs 1))
    (cond (b == 0x45) (with_effect d (slice_index vs 0) (slice_index vs 1))
    (cond (b == 0x53) (with_start d (slice_index vs 0) (slice_index vs 1))
    (cond (b == 0x47) (with_goal d (slice_index vs 0) (slice_index vs 1)) d)))))

-- what the commands write one after another
abbrev pub all_written_by : List Item → ModelRecord → ModelRecord
all_written_by [] d = d
all_written_by (i ∷ is) d = all_written_by is (written_by i.said.0 i.said.1 d)

-- The commands of a model d: first V, then A with its P and E, then S and G mixed, then one Z; d is what they write.
pub record InOrder (d : ModelRecord) (items rest : List Item) : Type 0 where
  pub variables : List Item
  pub moves : List Item
  pub ends : List Item
  pub seal : Item
  pub are_all : items ≡ variables ++ (moves ++ (ends ++ seal ∷ rest))
  pub variables_first : only (0x56 ∷ []) variables ≡ true
  pub then_moves : only (0x41 ∷ 0x50 ∷ 0x45 ∷ []) moves ≡ true
  pub a_move_begun_first : begins_with 0x41 moves ≡ true
  pub then_ends : only (0x53 ∷ 0x47 ∷ []) ends ≡ true
  pub then_the_seal : seal.said.0 ≡ 0x5a
  pub model_as_written : d ≡ all_written_by (variables ++ (moves ++ ends)) blank

-- the command i is a D whose operands are this kind and these variables
pub record Chooses (i : Item) (detector : Chosen) : Type 0 where
  pub by_a_detector_command : i.said.0 ≡ 0x44
  pub kind_and_operands : detector ≡ (slice_index i.said.1 0, slice_index i.said.1 1 ∷ slice_index i.said.1 2 ∷ slice_index i.said.1 3 ∷ [])

-- the commands of a model, and behind them the D that chooses the detector
pub record InOrderWithDetector (d : ModelRecord) (detector : Chosen) (items : List Item) : Type 0 where
  pub choice : Item
  pub rest : List Item
  pub model_first : InOrder d items (choice ∷ rest)
  pub then_the_detector : Chooses choice detector

-- what the way in which a sheet opens says of its commands
abbrev pub StandsInOrder : List Item → Opened → Type 0
StandsInOrder items (unsealed stop) = Unit {0}
StandsInOrder items (unchosen d stop) = (rest : List Item) × InOrder d items rest
StandsInOrder items (orders d detector place) = InOrderWithDetector d detector items

-- where the sheet's model was sealed, it keeps the limits of a model
abbrev pub ModelIsSealed : Opened → Type 0
ModelIsSealed (unsealed stop) = Unit {0}
ModelIsSealed (unchosen d stop) = Sealed d
ModelIsSealed (orders d detector place) = Sealed d
