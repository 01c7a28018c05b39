-- The commands behind the detector, one at a time.
use Rattle.std.proofs.Common.{◌≡◌, ℕ, zero, suc, ◌<◌, ◌≤◌, Bool, true, false, cond, leb, List, [], ◌∷◌, ◌++◌, length, Some, None, Option, refl, sym, ap, subst, ◌∙◌, arith}
use borrow.Author.Tests.{lt-leb}
use Rattle.std.specs.Io.KnownBytes.{Appends}
use Rattle.std.proofs.KnownBytes.{Appends-trans}
use Rattle.std.proofs.lemmas.Bool.{true≢false}
use Rattle.std.proofs.lemmas.List.{append_assoc, append-nil}
use Rattle.model.specs.declared.row.Row.{Row}
use Rattle.model.specs.Records.{ModelRecord}
use Rattle.sheet.specs.Reading.{Told, is_fault}
use Rattle.sheet.specs.Commands.{Item, item_found, commands_from}
use Rattle.sheet.proofs.CommandList.{commands_none, commands_some, found_moves_on}
use Rattle.session.specs.Turns.{State, fresh_lent, Came, stops, Turn, command_turn, unless_stopped}
use Rattle.desk.specs.Lines.{Said, end, line_bytes, printed}
use Rattle.desk.specs.Carrying.{line_of, order_lines}

-- what is printed of lines is printed of the first ones and then of the others
pub printed_both : (ls ms : List Said) → printed (ls ++ ms) ≡ printed ls ++ printed ms
printed_both [] ms = refl
printed_both (l ∷ ls) ms =
    ap (λ bs. line_bytes l ++ 10 ∷ bs) (printed_both ls ms) ∙ sym (append_assoc (line_bytes l) (10 ∷ printed ls) (printed ms))

module _ (d : ModelRecord) (gone : Row → Bool) (s : State) where
  -- a fault ends the run
  fault_stops : (n : ℕ) (vs : List ℕ) → leb n 2 ≡ true → stops (command_turn d gone fresh_lent s (n, vs)).0 ≡ true
  fault_stops zero vs fault = refl
  fault_stops (suc zero) vs fault = refl
  fault_stops (suc (suc zero)) vs fault = refl
  fault_stops (suc (suc (suc n))) vs fault = absurd (true≢false (sym fault ∙ lt-leb _ _ (omega arith)))

  -- so what goes on was a command
  going_on : (said : Told) → stops (command_turn d gone fresh_lent s said).0 ≡ false → is_fault said ≡ false
  going_on said on = not_fault (is_fault said) refl
    where
      not_fault : (b : Bool) → is_fault said ≡ b → b ≡ false
      not_fault false e = refl
      not_fault true e = absurd (true≢false (sym (fault_stops said.0 said.1 e) ∙ on))

-- the commands of a sheet from a place on, which find the state s
module _ (sheet : List ℕ) (place : ℕ) (s : State) where
  pub none_left : (d : ModelRecord) (gone : Row → Bool) → None ≡ item_found sheet place → order_lines d gone (length sheet) s (commands_from sheet place) ≡ end ∷ []
  unfolding order_lines
  none_left d gone none = ap (order_lines d gone (length sheet) s) (commands_none sheet place none)

  -- the first of them, which comes to c and leaves the state t over a detector y that is x
  module _ (i : Item) (found : Some i ≡ item_found sheet place) {D : Type 0} (carried : D → ModelRecord) (dead : D → Row → Bool) (x y : D) (same : y ≡ x) (c : Came) (t : State) (turned : ◌≡◌ {A = Turn} (c, t) (command_turn (carried y) (dead y) fresh_lent s i.said)) where
    abbrev lines_from : State → List Item → List Said
    lines_from = order_lines (carried x) (dead x) (length sheet)

    abbrev told_then : List Item → Turn → List Said
    told_then is turn = line_of (length sheet) i.place turn.0 ++ unless_stopped turn (lines_from turn.1 is)

    turned_over : ◌≡◌ {A = Turn} (c, t) (command_turn (carried x) (dead x) fresh_lent s i.said)
    turned_over = turned ∙ ap (λ z. command_turn (carried z) (dead z) fresh_lent s i.said) same

    -- where the run ends
    pub ends : stops c ≡ true → lines_from s (commands_from sheet place) ≡ line_of (length sheet) i.place c
    unfolding order_lines
    ends over =
        let is = cond (is_fault i.said) [] (commands_from sheet i.next) in
        ap (lines_from s) (commands_some sheet place i found)
        ∙ sym (ap (told_then is) turned_over)
        ∙ ap (λ b. line_of (length sheet) i.place c ++ cond b [] (lines_from t is)) over
        ∙ append-nil (line_of (length sheet) i.place c)

    module _ (on : stops c ≡ false) where
      command : is_fault i.said ≡ false
      command = going_on (carried x) (dead x) s i.said (sym (ap (λ (u : Turn). stops u.0) turned_over) ∙ on)

      -- where it goes on
      pub goes_on : lines_from s (commands_from sheet place) ≡ line_of (length sheet) i.place c ++ lines_from t (commands_from sheet i.next)
      unfolding order_lines
      goes_on =
          let is = commands_from sheet i.next in
          ap (lines_from s) (commands_some sheet place i found ∙ ap (λ q. i ∷ cond q [] is) command)
          ∙ sym (ap (told_then is) turned_over)
          ∙ ap (λ b. line_of (length sheet) i.place c ++ cond b [] (lines_from t is)) on

      pub moves_on : (place < i.next) × (i.next ≤ length sheet)
      moves_on = found_moves_on sheet place i found command

-- Of all lines these are left to print. What was printed before has brought the writer from a to b.
pub record Printing (a b : Option (List ℕ)) (left all : List Said) : Type 0 where
  pub so_far : List ℕ
  pub written : Appends a b so_far
  pub whole : so_far ++ printed left ≡ printed all

-- some more are printed
module _ (a b c : Option (List ℕ)) (left all now : List Said) (p : Printing a b left all) (after : Appends b c (printed now)) where
  abbrev both : Appends a c (p.so_far ++ printed now)
  both = Appends-trans a b c p.so_far (printed now) p.written after

  pub printed_all : left ≡ now → Appends a c (printed all)
  printed_all last = subst (Appends a c) (sym (ap (λ ls. p.so_far ++ printed ls) last) ∙ p.whole) both

  pub printed_more : (rest : List Said) → left ≡ now ++ rest → Printing a c rest all
  printed_more rest parts = record {
    so_far = p.so_far ++ printed now;
    written = both;
    whole = append_assoc p.so_far (printed now) (printed rest) ∙ sym (ap (λ bs. p.so_far ++ bs) (printed_both now rest)) ∙ sym (ap (λ ls. p.so_far ++ printed ls) parts) ∙ p.whole;
  }
