-- A step that the code carries out on a row or on the table is the step on the model's record.
use Rattle.std.proofs.Common.{◌≡◌, ℕ, ◌-◌, Bool, true, false, cond, [], length, is_ok, Some, refl, ap, ◌∙◌}
use Rattle.std.proofs.lemmas.List.{set-get_or}
use Rattle.model.specs.declared.row.Row.{Row}
use Rattle.model.specs.declared.moves.Move.{Move}
use Rattle.model.specs.declared.in_hand.Part.{Part}
use Rattle.model.specs.declared.in_hand.Part.TheVariants.{Conditions, Effects}
use Rattle.model.specs.declared.in_hand.End.{End}
use Rattle.model.specs.declared.in_hand.End.TheVariants.{Start, Goal}
use Rattle.model.specs.Rows.{with_entry}
use Rattle.model.specs.Tables.{begun, last_begun, with_last}
use Rattle.model.specs.Records.{ModelRecord}
use Rattle.model.specs.Writing.{with_moves, entered, part_of, with_part, move_entered, part_answer, enter_part, end_of, with_end, end_answer, enter_end}

same_part : (part : Part) (m : Move) → with_part part m (part_of part m) ≡ m
same_part Conditions m = refl
same_part Effects m = refl

same_end : (end : End) (d : ModelRecord) → with_end end d (end_of end d) ≡ d
same_end Start d = refl
same_end Goal d = refl

-- either way of a test
done_or_not : (q : Bool) (f : Row → ModelRecord) (row entry : Row) (d : ModelRecord) → f row ≡ d → f (cond q entry row) ≡ cond q (f entry) d
done_or_not true f row entry d same = refl
done_or_not false f row entry d same = same

pub part_step : (part : Part) (d : ModelRecord) (i v : ℕ) → with_moves d (with_last d.moves (move_entered part d.variables (last_begun d.moves) i v)) ≡ enter_part part d i v
part_step part d i v =
    let m = last_begun d.moves in
    done_or_not (is_ok (part_answer part d i v)) (λ row. with_moves d (with_last d.moves (with_part part m row))) (part_of part m) (with_entry (part_of part m) i (Some v)) d
    (ap (with_moves d) (ap (with_last d.moves) (same_part part m) ∙ set-get_or d.moves (length d.moves - 1) (begun [])))

pub end_step : (end : End) (d : ModelRecord) (i v : ℕ) → with_end end d (entered d.variables (end_of end d) i v) ≡ enter_end end d i v
end_step end d i v = done_or_not (is_ok (end_answer end d i v)) (with_end end d) (end_of end d) (with_entry (end_of end d) i (Some v)) d (same_end end d)
