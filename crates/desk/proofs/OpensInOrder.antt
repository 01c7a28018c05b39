-- The commands of a sheet that opens stand in order.
use Rattle.std.proofs.Common.{◌≡◌, ℕ, eqb, ltb, List, [], ◌∷◌, length, get_or, Ok, Err, Result, sym, refl, subst, eqb-true}
use Rattle.std.proofs.lemmas.Bool.{cond_both}
use Rattle.refusal.specs.declared.Refusal.{Refusal}
use Rattle.sheet.specs.Commands.{Item, commands}
use Rattle.model.specs.declared.variable.Variable.{Variable}
use Rattle.model.specs.Records.{ModelRecord, blank}
use Rattle.desk.specs.Steps.{naming}
use Rattle.desk.specs.ModelPart.{ModelEnd, stopped, sealed, model_part}
use Rattle.detectors.specs.Choosing.{Chosen, operands_fit}
use Rattle.desk.specs.DetectorPart.{choice_answer, chosen_at, detector_part}
use Rattle.desk.specs.Openings.{Opened, behind_model, opened_by, opening}
use Rattle.desk.specs.InOrder.{InOrder, Chooses, StandsInOrder}
use Rattle.desk.proofs.StandInOrder.{StandsBy, stand, in_order}

-- a detector that was chosen
abbrev ChosenBy : Item → Result Chosen Refusal → Type 0
ChosenBy i (Ok detector) = Chooses i detector
ChosenBy i (Err r) = Unit {0}

chooses : (vs : List Variable) (i : Item) → ChosenBy i (choice_answer vs i.said)
chooses vs i =
    let kind = get_or i.said.1 0 0 in
    let first = get_or i.said.1 1 0 in
    let others = get_or i.said.1 2 0 ∷ get_or i.said.1 3 0 ∷ [] in
    cond_both (eqb i.said.0 2) _ _ (ChosenBy i) (λ _. tt) (λ _.
    cond_both (eqb i.said.0 1) _ _ (ChosenBy i) (λ _. tt) (λ _.
    cond_both (eqb i.said.0 0x44) _ _ (ChosenBy i)
    (λ is. cond_both (ltb 2 kind) _ _ (ChosenBy i) (λ _. tt) (λ _.
    cond_both (operands_fit vs kind first others) (Ok (kind, first ∷ others)) _ (ChosenBy i) (λ _. record { by_a_detector_command = eqb-true _ _ is; kind_and_operands = refl }) (λ _. tt)))
    (λ _. tt)))

-- behind a model d, whose commands stand before `rest`
module _ (end : ℕ) (items : List Item) (d : ModelRecord) where
  behind_choice : (i : Item) (is : List Item) → InOrder d items (i ∷ is) → (c : Result Chosen Refusal) → ChosenBy i c → StandsInOrder items (behind_model d (chosen_at end i c))
  behind_choice i is o (Err r) chosen = (i ∷ is, o)
  behind_choice i is o (Ok detector) chosen =
      record { choice = i; rest = is; model_first = o; then_the_detector = chosen }

  stands_behind : (rest : List Item) → InOrder d items rest → StandsInOrder items (behind_model d (detector_part end d.variables rest))
  stands_behind [] o = ([], o)
  stands_behind (i ∷ is) o = behind_choice i is o (choice_answer d.variables i.said) (chooses d.variables i)

stands_by : (end : ℕ) (items : List Item) (m : ModelEnd) → StandsBy naming blank items m → StandsInOrder items (opened_by end m)
stands_by end items (stopped stop) o = tt
stands_by end items (sealed d rest) o = stands_behind end items d rest (in_order o)

sheet_stands : (sheet : List ℕ) → StandsInOrder (commands sheet) (opening sheet)
unfolding opening
sheet_stands sheet = cond_both (ltb 65536 (length sheet)) _ _ (StandsInOrder (commands sheet)) (λ _. tt)
    (λ _. stands_by (length sheet) (commands sheet) (model_part (length sheet) naming blank (commands sheet)) (stand (length sheet) (commands sheet) naming blank))

-- the same of what the code answers
pub opens_in_order : (sheet : List ℕ) (o : Opened) → o ≡ opening sheet → StandsInOrder (commands sheet) o
opens_in_order sheet o is = subst (StandsInOrder (commands sheet)) (sym is) (sheet_stands sheet)
