-- The model part of a sheet, one command at a time.
use Rattle.std.proofs.Common.{◌≡◌, ℕ, zero, suc, ◌<◌, ◌≤◌, false, cond, leb, List, [], ◌∷◌, length, Some, None, sym, refl, ap, ◌∙◌, arith}
use borrow.Author.Tests.{lt-leb}
use Rattle.refusal.specs.declared.Refusal.{Refusal}
use Rattle.refusal.specs.declared.Refusal.TheVariants.{SheetEnds, UnknownCommand, OutOfTurn}
use Rattle.sheet.specs.Reading.{Told, is_fault}
use Rattle.sheet.specs.Commands.{Item, item_found, commands_from}
use Rattle.sheet.proofs.CommandList.{commands_none, commands_some, found_moves_on}
use Rattle.model.specs.Records.{ModelRecord}
use Rattle.desk.specs.Steps.{Phase, Turned, goes, seals, refuses, step}
use Rattle.desk.specs.ModelPart.{ModelEnd, stopped, sealed, stop_at, turned_to, model_part}

module _ (p : Phase) (d : ModelRecord) where
  readable : (n : ℕ) (vs : List ℕ) → ((r : Refusal) → step p d (n, vs) ≡ refuses r → ⊥) → leb n 2 ≡ false
  readable zero vs accepted = absurd (accepted OutOfTurn refl)
  readable (suc zero) vs accepted = absurd (accepted SheetEnds refl)
  readable (suc (suc zero)) vs accepted = absurd (accepted UnknownCommand refl)
  readable (suc (suc (suc n))) vs accepted = lt-leb _ _ (omega arith)

  -- a fault is refused, so what is not refused is a command
  is_command : (said : Told) (t : Turned) → ((r : Refusal) → t ≡ refuses r → ⊥) → t ≡ step p d said → is_fault said ≡ false
  is_command said t accepted is = readable said.0 said.1 (λ r e. accepted r (is ∙ e))

  sealed_command : (said : Told) (e : ModelRecord) → seals e ≡ step p d said → is_fault said ≡ false
  sealed_command said e = is_command said (seals e) (λ r never. cc)

  going_command : (said : Told) (q : Phase) (e : ModelRecord) → goes q e ≡ step p d said → is_fault said ≡ false
  going_command said q e = is_command said (goes q e) (λ r never. cc)

-- the commands of a sheet from a place on, where the model so far is d
module _ (sheet : List ℕ) (place : ℕ) (p : Phase) (d : ModelRecord) where
  abbrev run : ModelEnd
  run = model_part (length sheet) p d (commands_from sheet place)

  pub run_ends : None ≡ item_found sheet place → run ≡ stopped (stop_at (length sheet) place SheetEnds)
  unfolding model_part
  run_ends is = ap (model_part (length sheet) p d) (commands_none sheet place is)

  module _ (i : Item) (is : Some i ≡ item_found sheet place) where
    pub run_refuses : (r : Refusal) → refuses r ≡ step p d i.said → run ≡ stopped (stop_at (length sheet) i.place r)
    unfolding model_part
    run_refuses r turned = ap (model_part (length sheet) p d) (commands_some sheet place i is) ∙ ap (turned_to _ (length sheet) i.place _) (sym turned)

    more : is_fault i.said ≡ false → commands_from sheet place ≡ i ∷ commands_from sheet i.next
    more command = commands_some sheet place i is ∙ ap (λ q. i ∷ cond q [] (commands_from sheet i.next)) command

    pub run_seals : (e : ModelRecord) → seals e ≡ step p d i.said → run ≡ sealed e (commands_from sheet i.next)
    unfolding model_part
    run_seals e turned = ap (model_part (length sheet) p d) (more (sealed_command p d i.said e turned)) ∙ ap (turned_to _ (length sheet) i.place _) (sym turned)

    pub run_goes : (q : Phase) (e : ModelRecord) → goes q e ≡ step p d i.said → run ≡ model_part (length sheet) q e (commands_from sheet i.next)
    unfolding model_part
    run_goes q e turned = ap (model_part (length sheet) p d) (more (going_command p d i.said q e turned)) ∙ ap (turned_to _ (length sheet) i.place _) (sym turned)

    pub run_moves_on : (q : Phase) (e : ModelRecord) → goes q e ≡ step p d i.said → (place < i.next) × (i.next ≤ length sheet)
    run_moves_on q e turned = found_moves_on sheet place i is (going_command p d i.said q e turned)
