-- A sheet whose detector is made, and then its orders.
use Rattle.std.proofs.Common.{◌≡◌, ℕ, Bool, List, [], ◌∷◌, length, Option, sym, ap, subst, ◌∙◌}
use Rattle.std.specs.Io.KnownBytes.{Appends}
use Rattle.std.proofs.KnownBytes.{Appends-trans}
use Rattle.model.specs.declared.row.Row.{Row}
use Rattle.sheet.specs.Commands.{commands_from}
use Rattle.detectors.specs.declared.shipped.Shipped.{Shipped}
use Rattle.detectors.specs.Shipping.{shipped_model, shipped_dead, detector_told, told_dead, MeansWhatIsTold}
use Rattle.session.specs.Turns.{State}
use Rattle.session.specs.Sessions.{fresh_state}
use Rattle.desk.specs.Lines.{Said, model_line, printed}
use Rattle.desk.specs.Carrying.{order_lines, opened_lines, lines_of}
use Rattle.desk.specs.Openings.{orders, opening}
use Rattle.desk.proofs.OrderRun.{printed_both}

module _ (sheet : List ℕ) (s : Shipped) (place : ℕ) (opens : orders (shipped_model s) (detector_told s) place ≡ opening sheet) (means : MeansWhatIsTold s) where
  -- the detector calls dead what is told of it
  same_dead : shipped_dead s ≡ told_dead (shipped_model s) (detector_told s)
  same_dead = λ i row. means row i

  module _ (t : Shipped) (over : t ≡ s) (first : State) (fresh : first ≡ fresh_state) where
    orders_printed : order_lines (shipped_model t) (shipped_dead t) (length sheet) first (commands_from sheet place) ≡ order_lines (shipped_model s) (told_dead (shipped_model s) (detector_told s)) (length sheet) fresh_state (commands_from sheet place)
    orders_printed =
        (λ i. order_lines (shipped_model (over i)) (shipped_dead (over i)) (length sheet) (fresh i) (commands_from sheet place))
        ∙ ap (λ (dead : Row → Bool). order_lines (shipped_model s) dead (length sheet) fresh_state (commands_from sheet place)) same_dead

    -- so behind the model's line the lines of the orders are the sheet's
    pub sheet_printed : (line : Said) → line ≡ model_line (shipped_model s) → (a b c : Option (List ℕ)) → Appends a b (printed (line ∷ [])) → Appends b c (printed (order_lines (shipped_model t) (shipped_dead t) (length sheet) first (commands_from sheet place))) → Appends a c (printed (lines_of sheet))
    sheet_printed line told a b c before after =
        subst (Appends a c)
        (sym (printed_both (line ∷ []) _) ∙ ap (λ ls. printed ls) (λ i. told i ∷ orders_printed i) ∙ ap (λ o. printed (opened_lines sheet o)) opens)
        (Appends-trans a b c (printed (line ∷ [])) (printed (order_lines (shipped_model t) (shipped_dead t) (length sheet) first (commands_from sheet place))) before after)
