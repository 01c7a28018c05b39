-- The lines of a sheet tell the run of the orders that it gives.
use Rattle.std.proofs.Common.{◌≡◌, ℕ, Bool, eqb, List, [], ◌∷◌, ◌++◌, length, Some, None, Option, Ok, Err, refl, sym, ap, subst}
use Rattle.std.specs.Prelude.{option_map, option_to_list, unwrap_or}
use Rattle.std.proofs.lemmas.Bool.{cond_both, eqb-true}
use Rattle.model.specs.declared.row.Row.{Row}
use Rattle.model.specs.Records.{ModelRecord, Sealed}
use Rattle.model.specs.Tables.{Answer}
use Rattle.detector.specs.Laws.{Lawful}
use Rattle.sheet.specs.Reading.{Told}
use Rattle.sheet.specs.Commands.{Item, commands_from}
use Rattle.hand.specs.Gathering.{Gathering, nothing}
use Rattle.hand.specs.ReadBack.{told_gathers, unless_refused}
use Rattle.orders.specs.Orders.{Brought}
use Rattle.orders.specs.Runs.{answers_run, left_run}
use Rattle.orders.specs.WholeRuns.{EveryRunKeepsThePromise}
use Rattle.orders.proofs.Promise.{every_run_keeps_the_promise}
use Rattle.session.specs.Turns.{State, fresh_lent, quiet, answered, stopped, Turn, gathers, after_order, gathered_behind, order_given, order_turn, orders_from, comes_to_the_end, other_turn, unless_stopped, orders_given}
use Rattle.session.specs.Sessions.{fresh_state}
use Rattle.detectors.specs.Shipping.{shipped_model, detector_told, told_dead}
use Rattle.desk.specs.declared.opening.Opening.{Opening}
use Rattle.desk.specs.declared.opening.Opening.TheVariants.{Unsealed, Unchosen, Orders}
use Rattle.desk.specs.Lines.{Said, stop_line, end}
use Rattle.desk.specs.ModelPart.{stop_at}
use Rattle.desk.specs.Carrying.{line_of, lines_of, opened_lines, order_lines}
use Rattle.desk.specs.Openings.{opening}
use Rattle.desk.specs.Promise.{answer_lines, Closes, KeepsThePromise, SheetKeepsThePromise}
use Rattle.desk.specs.InOrder.{ModelIsSealed}
use Rattle.desk.specs.Told.{opening_told, DetectorIsLawful, DetectorMeansWhatIsTold}
use Rattle.desk.proofs.SheetOpens.{every_opening_sealed, every_detector_lawful}

-- a turn of a command that gives no order leaves the rows of the book, and the hand and the list that are told here; or it ends the run, and none are told
abbrev Gathers : List Row → Option Gathering → Turn → Type 0
Gathers rows left (quiet, t) = (t.rows ≡ rows) × (left ≡ Some t.gathered)
Gathers rows left (answered a bytes, t) = ⊥
Gathers rows left (stopped why, t) = left ≡ None

gathering_leaves : (a : Answer) (s : State) (g : Gathering) → Gathers s.rows (unless_refused a g) (gathers a s g)
gathering_leaves (Ok done) s g = (refl, refl)
gathering_leaves (Err why) s g = refl

module _ (d : ModelRecord) (gone : Row → Bool) where
  other_leaves : (s : State) (said : Told) → Gathers s.rows (told_gathers d.variables s.gathered said) (other_turn d gone s said)
  other_leaves s (n, vs) =
      let left = told_gathers d.variables s.gathered (n, vs) in
      cond_both {A = Turn} (eqb n 2) _ _ (Gathers s.rows left) (λ e. subst (λ k. told_gathers d.variables s.gathered (k, vs) ≡ None) (sym (eqb-true n 2 e)) refl) (λ _.
      cond_both {A = Turn} (eqb n 1) _ _ (Gathers s.rows left) (λ e. subst (λ k. told_gathers d.variables s.gathered (k, vs) ≡ None) (sym (eqb-true n 1 e)) refl) (λ _.
      cond_both {A = Turn} (eqb n 0x52) _ _ (Gathers s.rows left) (λ e. rw e (gathering_leaves _ s _)) (λ no_entry.
      cond_both {A = Turn} (eqb n 0x4e) _ _ (Gathers s.rows left) (λ e. rw (no_entry, e) (gathering_leaves _ s _)) (λ no_next. rw (no_entry, no_next) refl))))

  -- these lines tell the run of these orders on a book with these rows
  record Tells (rows : List Row) (given : List Brought) (to_the_end : Bool) (lines : List Said) : Type 0 where
    last : Said
    closes : Closes to_the_end last
    each : lines ≡ answer_lines (answers_run d gone rows given) (left_run d gone rows given) ++ last ∷ []

  -- the lines of the commands, which find the hand and the list so, or are behind the end of the run
  abbrev TellsFrom : List Row → Option Gathering → List Item → List Said → Type 0
  TellsFrom rows left is = Tells rows (orders_from d.variables left is) (comes_to_the_end d.variables left is)

  -- a command that finds the state s, at a place of a sheet of `size` bytes, and the lines of what follows it
  module _ (size place : ℕ) (s : State) (is : List Item) (next : (t : State) → TellsFrom t.rows (Some t.gathered) is (order_lines d gone size t is)) where
    abbrev TellsBehind : List Brought → Option Gathering → Turn → Type 0
    TellsBehind given left turn = Tells s.rows (given ++ orders_from d.variables left is) (comes_to_the_end d.variables left is) (line_of size place turn.0 ++ unless_stopped turn (order_lines d gone size turn.1 is))

    behind_other : (left : Option Gathering) (turn : Turn) → Gathers s.rows left turn → TellsBehind [] left turn
    unfolding answers_run left_run
    behind_other left (quiet, t) same =
        subst (λ (l : Option Gathering). TellsFrom s.rows l is (order_lines d gone size t is)) (sym same.1)
        (subst (λ (rows : List Row). TellsFrom rows (Some t.gathered) is (order_lines d gone size t is)) same.0 (next t))
    behind_other left (answered a bytes, t) never = absurd never
    behind_other left (stopped why, t) none =
        subst (λ (l : Option Gathering). TellsBehind [] l (stopped why, t)) (sym none)
        (record { last = stop_line (stop_at size place why); closes = (_, _, refl); each = refl })

    behind_order : (o : Brought) → TellsBehind (o ∷ []) (Some (after_order o s.gathered)) (order_turn d gone s o)
    unfolding answers_run left_run
    behind_order o =
        let turn = order_turn d gone s o in
        let later = next turn.1 in
        record { last = later.last; closes = later.closes; each = ap (λ ls. line_of size place turn.0 ++ ls) later.each }

    behind : (said : Told) (o : Option Brought) → TellsBehind (option_to_list o) (gathered_behind d.variables s.gathered said o) (unwrap_or (option_map (order_turn d gone s) o) (other_turn d gone s said))
    behind said None = behind_other (told_gathers d.variables s.gathered said) (other_turn d gone s said) (other_leaves s said)
    behind said (Some o) = behind_order o

  tells : (size : ℕ) (s : State) (items : List Item) → TellsFrom s.rows (Some s.gathered) items (order_lines d gone size s items)
  unfolding order_lines answers_run left_run
  tells size s [] = record { last = end; closes = refl; each = refl }
  tells size s (i ∷ is) = behind size i.place s is (λ t. tells size t is) i.said (order_given fresh_lent s.gathered i.said)

  module _ (sealed : Sealed d) (laws : Lawful d gone) (size : ℕ) (items : List Item) where
    pub run_keeps : KeepsThePromise d gone (orders_given d.variables items) (comes_to_the_end d.variables (Some nothing) items) (order_lines d gone size fresh_state items)
    unfolding EveryRunKeepsThePromise orders_given
    run_keeps =
        let told = tells size fresh_state items in
        record { last = told.last; the_last_closes = told.closes; a_line_for_each_answer = told.each; the_run_keeps_it = every_run_keeps_the_promise d gone sealed laws (orders_given d.variables items) }

-- so whatever way the sheet opens
module _ (sheet : List ℕ) where
  sheet_keeps : (o : Opening) → DetectorMeansWhatIsTold o → ModelIsSealed (opening_told o) → DetectorIsLawful o → SheetKeepsThePromise sheet (opening_told o) (opened_lines sheet (opening_told o))
  sheet_keeps (Unsealed stop) means sealed laws = refl
  sheet_keeps (Unchosen m stop) means sealed laws = refl
  sheet_keeps (Orders s place) means sealed laws =
      let d = shipped_model s in
      let gone = told_dead d (detector_told s) in
      let told_laws = subst (Lawful d) (λ i row. means row i) laws in
      (_, refl, run_keeps d gone sealed told_laws (length sheet) (commands_from sheet place))

  pub promise_kept : (o : Opening) → opening_told o ≡ opening sheet → DetectorMeansWhatIsTold o → SheetKeepsThePromise sheet (opening sheet) (lines_of sheet)
  promise_kept o opens means = subst (λ e. SheetKeepsThePromise sheet e (opened_lines sheet e)) opens (sheet_keeps o means (every_opening_sealed o) (every_detector_lawful o))
