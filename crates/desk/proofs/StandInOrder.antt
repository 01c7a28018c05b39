-- The commands of a model that was sealed stand in order, and the model is what they write.
use Rattle.std.proofs.Common.{◌≡◌, ℕ, true, List, [], ◌∷◌, ◌++◌, sym, refl, ap, ◌∙◌, subst, arith, eq-eqb}
use Rattle.std.proofs.lemmas.Bool.{and_from}
use Rattle.std.proofs.lemmas.Bool.Decides.{nat_tests}
use Rattle.sheet.specs.Commands.{Item}
use Rattle.model.specs.Records.{ModelRecord, blank}
use Rattle.desk.specs.Steps.{Phase, naming, writing, ending, Turned, goes, seals, refuses, step}
use Rattle.desk.specs.ModelPart.{ModelEnd, stopped, sealed, turned_to, model_part}
use Rattle.desk.specs.InOrder.{one_of, only, begins_with, written_by, all_written_by, InOrder}
use Rattle.desk.proofs.WentOn.{Went, named_one, begun_one, entered_part, entered_end, Did, step_did}

-- what cannot stand any more in a phase
abbrev pub Over : Phase → List Item → List Item → Type 0
Over naming variables moves = begins_with 0x41 moves ≡ true
Over writing variables moves = variables ≡ []
Over ending variables moves = (variables ≡ []) × (moves ≡ [])

-- the commands from a phase and the model d on, up to the one that seals the model d'
pub record Stands (p : Phase) (d d' : ModelRecord) (items rest : List Item) : Type 0 where
  variables : List Item
  moves : List Item
  ends : List Item
  seal : Item
  are_all : items ≡ variables ++ (moves ++ (ends ++ seal ∷ rest))
  variables_first : only (0x56 ∷ []) variables ≡ true
  then_moves : only (0x41 ∷ 0x50 ∷ 0x45 ∷ []) moves ≡ true
  over : Over p variables moves
  then_ends : only (0x53 ∷ 0x47 ∷ []) ends ≡ true
  then_the_seal : seal.said.0 ≡ 0x5a
  as_written : d' ≡ all_written_by (variables ++ (moves ++ ends)) d

none_over : (p : Phase) → Over p [] []
none_over naming = refl
none_over writing = refl
none_over ending = (refl, refl)

moves_over : (p : Phase) → (p ≡ ending → ⊥) → (moves : List Item) → begins_with 0x41 moves ≡ true → Over p [] moves
moves_over naming more moves first = first
moves_over writing more moves first = refl
moves_over ending more moves first = absurd (more refl)

-- a command with the byte b, before others that have one of the bytes
only_more : (bytes : List ℕ) (i : Item) (is : List Item) (b : ℕ) → i.said.0 ≡ b → one_of bytes b ≡ true → only bytes is ≡ true → only bytes (i ∷ is) ≡ true
only_more bytes i is b said one more = and_from _ _ (ap (one_of bytes) said ∙ one) more

-- what a command writes, before the others
writes_first : (i : Item) (is : List Item) (b : ℕ) (d e d' : ModelRecord) → i.said.0 ≡ b → e ≡ written_by b i.said.1 d → d' ≡ all_written_by is e → d' ≡ all_written_by (i ∷ is) d
writes_first i is b d e d' said made later = later ∙ ap (all_written_by is) (made ∙ ap (λ n. written_by n i.said.1 d) (sym said))

-- a condition or an effect is one of the commands of the moves
part_of_moves : (b : ℕ) → one_of (0x50 ∷ 0x45 ∷ []) b ≡ true → one_of (0x41 ∷ 0x50 ∷ 0x45 ∷ []) b ≡ true
part_of_moves b one = grind (arith, nat_tests)

module _ (p : Phase) (d d' : ModelRecord) (i : Item) (is rest : List Item) where
  -- a command of the moves comes first
  move_first : (b : ℕ) (e : ModelRecord) → i.said.0 ≡ b → e ≡ written_by b i.said.1 d → one_of (0x41 ∷ 0x50 ∷ 0x45 ∷ []) b ≡ true → ((moves : List Item) → Over p [] (i ∷ moves)) → Stands writing e d' is rest → Stands p d d' (i ∷ is) rest
  move_first b e said made one over o = record {
    variables = [];
    moves = i ∷ o.moves;
    ends = o.ends;
    seal = o.seal;
    are_all = ap (λ l. i ∷ l) (o.are_all ∙ ap (λ vs. vs ++ (o.moves ++ (o.ends ++ o.seal ∷ rest))) o.over);
    variables_first = refl;
    then_moves = only_more (0x41 ∷ 0x50 ∷ 0x45 ∷ []) i o.moves b said one o.then_moves;
    over = over o.moves;
    then_ends = o.then_ends;
    then_the_seal = o.then_the_seal;
    as_written = writes_first i (o.moves ++ o.ends) b d e d' said made (o.as_written ∙ ap (λ vs. all_written_by (vs ++ (o.moves ++ o.ends)) e) o.over);
  }

  stands_before : (q : Phase) (e : ModelRecord) → Went p q d e i.said → Stands q e d' is rest → Stands p d d' (i ∷ is) rest
  stands_before q e (named_one from to said made) o = record {
    variables = i ∷ o.variables;
    moves = o.moves;
    ends = o.ends;
    seal = o.seal;
    are_all = ap (λ l. i ∷ l) o.are_all;
    variables_first = only_more (0x56 ∷ []) i o.variables 0x56 said refl o.variables_first;
    then_moves = o.then_moves;
    over = subst (λ r. Over r (i ∷ o.variables) o.moves) (sym from) (subst (λ r. Over r o.variables o.moves) to o.over);
    then_ends = o.then_ends;
    then_the_seal = o.then_the_seal;
    as_written = writes_first i (o.variables ++ (o.moves ++ o.ends)) 0x56 d e d' said made o.as_written;
  }
  stands_before q e (begun_one more to said made) o = move_first 0x41 e said made refl (λ moves. moves_over p more (i ∷ moves) (eq-eqb _ _ said)) (subst (λ r. Stands r e d' is rest) to o)
  stands_before q e (entered_part b one from to said made) o = move_first b e said made (part_of_moves b one) (λ moves. subst (λ r. Over r [] (i ∷ moves)) (sym from) refl) (subst (λ r. Stands r e d' is rest) to o)
  stands_before q e (entered_end b one to said made) o =
      let over : (o.variables ≡ []) × (o.moves ≡ []) = subst (λ r. Over r o.variables o.moves) to o.over in
      record {
        variables = [];
        moves = [];
        ends = i ∷ o.ends;
        seal = o.seal;
        are_all = ap (λ l. i ∷ l) (o.are_all ∙ (λ j. over.0 j ++ (over.1 j ++ (o.ends ++ o.seal ∷ rest))));
        variables_first = refl;
        then_moves = refl;
        over = none_over p;
        then_ends = only_more (0x53 ∷ 0x47 ∷ []) i o.ends b said one o.then_ends;
        then_the_seal = o.then_the_seal;
        as_written = writes_first i o.ends b d e d' said made (o.as_written ∙ (λ j. all_written_by (over.0 j ++ (over.1 j ++ o.ends)) e));
      }

-- where the model is sealed, the commands up to there stand in order
abbrev pub StandsBy : Phase → ModelRecord → List Item → ModelEnd → Type 0
StandsBy p d items (stopped stop) = Unit {0}
StandsBy p d items (sealed d' rest) = Stands p d d' items rest

module _ (p : Phase) (d : ModelRecord) (i : Item) (is : List Item) where
  goes_on : (q : Phase) (e : ModelRecord) → Went p q d e i.said → (m : ModelEnd) → StandsBy q e is m → StandsBy p d (i ∷ is) m
  goes_on q e by (stopped stop) o = tt
  goes_on q e by (sealed d' rest) o = stands_before p d d' i is rest q e by o

  turns : (end : ℕ) → ((q : Phase) (e : ModelRecord) → StandsBy q e is (model_part end q e is)) → (t : Turned) → Did p d i.said t → StandsBy p d (i ∷ is) (turned_to (λ q e. model_part end q e is) end i.place is t)
  turns end later (goes q e) by = goes_on q e by (model_part end q e is) (later q e)
  turns end later (seals e) by = record {
    variables = [];
    moves = [];
    ends = [];
    seal = i;
    are_all = refl;
    variables_first = refl;
    then_moves = refl;
    over = none_over p;
    then_ends = refl;
    then_the_seal = by.0;
    as_written = by.1;
  }
  turns end later (refuses r) by = tt

pub stand : (end : ℕ) (items : List Item) (p : Phase) (d : ModelRecord) → StandsBy p d items (model_part end p d items)
unfolding model_part
stand end [] p d = tt
stand end (i ∷ is) p d = turns p d i is end (stand end is) (step p d i.said) (step_did p d i.said)

pub in_order : {d : ModelRecord} {items rest : List Item} → Stands naming blank d items rest → InOrder d items rest
in_order o = record {
  variables = o.variables;
  moves = o.moves;
  ends = o.ends;
  seal = o.seal;
  are_all = o.are_all;
  variables_first = o.variables_first;
  then_moves = o.then_moves;
  a_move_begun_first = o.over;
  then_ends = o.then_ends;
  then_the_seal = o.then_the_seal;
  model_as_written = o.as_written;
}
