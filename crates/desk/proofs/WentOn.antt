-- What a command must have been for the model to go on, or to be sealed.
use Rattle.std.proofs.Common.{◌≡◌, ℕ, true, cond, eqb, List, [], ◌∷◌, ◌++◌, get_or, drop, is_ok, Ok, Err, refl, ap, ◌∙◌, eqb-true}
use Rattle.std.proofs.lemmas.Bool.{cond-true, cond_both}
use Rattle.sheet.specs.Reading.{Told}
use Rattle.model.specs.declared.in_hand.Part.{Part}
use Rattle.model.specs.declared.in_hand.Part.TheVariants.{Conditions, Effects}
use Rattle.model.specs.Records.{ModelRecord}
use Rattle.model.specs.Tables.{Answer, begun}
use Rattle.model.specs.Writing.{with_move, move_answer, begin_move, with_part_entry, seal_answer, with_moves}
use Rattle.desk.specs.InOrder.{one_of, written_by}
use Rattle.desk.specs.Steps.{Phase, naming, writing, ending, Turned, goes, seals, refuses, answered, variable_step, move_step, part_step, step}

-- a step from p to q, from the model d to e, by the command said, which wrote something
pub data Went (p q : Phase) (d e : ModelRecord) (said : Told) : Type 0 where
  named_one : p ≡ naming → q ≡ naming → said.0 ≡ 0x56 → e ≡ written_by 0x56 said.1 d → Went p q d e said
  begun_one : (p ≡ ending → ⊥) → q ≡ writing → said.0 ≡ 0x41 → e ≡ written_by 0x41 said.1 d → Went p q d e said
  entered_part : (b : ℕ) → one_of (0x50 ∷ 0x45 ∷ []) b ≡ true → p ≡ writing → q ≡ writing → said.0 ≡ b → e ≡ written_by b said.1 d → Went p q d e said
  entered_end : (b : ℕ) → one_of (0x53 ∷ 0x47 ∷ []) b ≡ true → q ≡ ending → said.0 ≡ b → e ≡ written_by b said.1 d → Went p q d e said

-- what a turn says of the command; only Z seals, and it seals the model as it is
abbrev pub Did : Phase → ModelRecord → Told → Turned → Type 0
Did p d said (goes q e) = Went p q d e said
Did p d said (seals e) = (said.0 ≡ 0x5a) × (e ≡ d)
Did p d said (refuses r) = Unit {0}

-- a move that could be begun
move_done : (d : ModelRecord) (name : List ℕ) → is_ok (move_answer d) ≡ true → begin_move d name ≡ with_move d name
move_done d name done = ap (λ q. with_moves d (cond q (d.moves ++ begun name ∷ []) d.moves)) done

-- a step that was answered
accepted : (p : Phase) (d : ModelRecord) (said : Told) (a : Answer) (q : Phase) (e : ModelRecord) → (is_ok a ≡ true → Went p q d e said) → Did p d said (answered a q e)
accepted p d said (Ok done) q e then = then refl
accepted p d said (Err r) q e then = tt

by_variable : (p : Phase) (d : ModelRecord) (said : Told) → said.0 ≡ 0x56 → Did p d said (variable_step p d (get_or said.1 0 0) (drop 1 said.1))
by_variable naming d said is = accepted naming d said _ naming _ (λ fits. named_one refl refl is (cond-true _ _ _ fits))
by_variable writing d said is = tt
by_variable ending d said is = tt

by_move : (p : Phase) (d : ModelRecord) (said : Told) → said.0 ≡ 0x41 → Did p d said (move_step p d said.1)
by_move naming d said is = accepted naming d said _ writing _ (λ fits. begun_one (λ end. cc) refl is (move_done d said.1 fits))
by_move writing d said is = accepted writing d said _ writing _ (λ fits. begun_one (λ end. cc) refl is (move_done d said.1 fits))
by_move ending d said is = tt

by_part : (part : Part) (b : ℕ) → one_of (0x50 ∷ 0x45 ∷ []) b ≡ true → ((d : ModelRecord) (vs : List ℕ) → with_part_entry part d (get_or vs 0 0) (get_or vs 1 0) ≡ written_by b vs d) → (p : Phase) (d : ModelRecord) (said : Told) → said.0 ≡ b → Did p d said (part_step part p d (get_or said.1 0 0) (get_or said.1 1 0))
by_part part b one writes naming d said is = tt
by_part part b one writes writing d said is = accepted writing d said _ writing _ (λ fits. entered_part b one refl refl is (cond-true _ _ _ fits ∙ writes d said.1))
by_part part b one writes ending d said is = tt

pub step_did : (p : Phase) (d : ModelRecord) (said : Told) → Did p d said (step p d said)
step_did p d said =
    cond_both (eqb said.0 2) _ _ (Did p d said) (λ _. tt) (λ _.
    cond_both (eqb said.0 1) _ _ (Did p d said) (λ _. tt) (λ _.
    cond_both (eqb said.0 0x56) _ _ (Did p d said) (λ is. by_variable p d said (eqb-true _ _ is)) (λ _.
    cond_both (eqb said.0 0x41) _ _ (Did p d said) (λ is. by_move p d said (eqb-true _ _ is)) (λ _.
    cond_both (eqb said.0 0x50) _ _ (Did p d said) (λ is. by_part Conditions 0x50 refl (λ _ _. refl) p d said (eqb-true _ _ is)) (λ _.
    cond_both (eqb said.0 0x45) _ _ (Did p d said) (λ is. by_part Effects 0x45 refl (λ _ _. refl) p d said (eqb-true _ _ is)) (λ _.
    cond_both (eqb said.0 0x53) _ _ (Did p d said) (λ is. accepted p d said _ ending _ (λ fits. entered_end 0x53 refl refl (eqb-true _ _ is) (cond-true _ _ _ fits))) (λ _.
    cond_both (eqb said.0 0x47) _ _ (Did p d said) (λ is. accepted p d said _ ending _ (λ fits. entered_end 0x47 refl refl (eqb-true _ _ is) (cond-true _ _ _ fits))) (λ _.
    cond_both (eqb said.0 0x5a) _ _ (Did p d said)
    (λ is. cond_both (is_ok (seal_answer d)) _ _ (Did p d said) (λ _. (eqb-true _ _ is, refl)) (λ _. tt))
    (λ _. tt)))))))))
