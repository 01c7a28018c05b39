-- An offer and a judgement ask the dead set about rows of the model alone, so where two dead sets have the same of these, books over them do alike.
use Rattle.std.proofs.Common.{◌≡◌, Bool, true, cond, not, ◌&&◌, ◌||◌, List, ◌++◌, length, is_ok, Ok, Err, Result, refl, sym, ap, ◌∙◌}
use Rattle.std.specs.List.{list_all}
use Rattle.std.specs.Result.{result_and}
use Rattle.refusal.specs.declared.Refusal.TheVariants.{LeadsOut}
use Rattle.model.specs.declared.row.Row.{Row}
use Rattle.model.specs.declared.moves.Move.{Move}
use Rattle.lists.specs.Members.{Among}
use Rattle.model.specs.Moves.{applicable, progression}
use Rattle.model.specs.Records.{ModelRecord, Sealed, row_of_model}
use Rattle.model.specs.WrongEntries.{row_checked, RowsWithoutWrongEntriesFit}
use Rattle.lists.proofs.Members.{all_among}
use Rattle.model.proofs.WrongEntries.{checked_rows_fit}
use Rattle.rules.specs.Rules.{covers, stays_in}
use Rattle.book.specs.Adding.{fresh, room_checked}
use Rattle.book.specs.Offers.{list_checked, rule_1_checked, rule_2_checked, rows_checked, offer_checked, offer_answer, offer_rows}
use Rattle.book.specs.Refusals.{unless_step}
use Rattle.book.specs.Verdicts.{judge_answer}
use Rattle.book.proofs.OfferLaws.{list_fit}
use Rattle.book.proofs.Orders.{pairs_alike}
use Rattle.model.proofs.Progressions.{row_progresses}

-- what is asked behind a check matters only where that passes
behind : {T U E : Type 0} (a : Result T E) (b c : Result U E) → (is_ok a ≡ true → b ≡ c) → result_and a b ≡ result_and a c
behind (Ok x) b c same = same refl
behind (Err why) b c same = refl

module _ (d : ModelRecord) (dead gone : Row → Bool) (same : (t : Row) → row_of_model d t ≡ true → dead t ≡ gone t) where
  pub judge_alike : (rows : List Row) (t : Row) → judge_answer d dead rows t ≡ judge_answer d gone rows t
  unfolding RowsWithoutWrongEntriesFit
  judge_alike rows t =
      behind (row_checked d.variables t) _ _ (λ right. ap (λ b. Ok (b || (row_of_model d t && covers rows t))) (same t (sym (checked_rows_fit d.variables t) ∙ right)))

  module _ (sealed : Sealed d) where
    stays_alike : (set : List Row) (r : Row) → row_of_model d r ≡ true → (m : Move) → Among d.moves m → stays_in dead set r m ≡ stays_in gone set r m
    stays_alike set r fits m among =
        ap (λ b. not (applicable m r) || (b || covers set (progression m r))) (same (progression m r) (row_progresses d sealed m among r fits))

    rule_2_alike : (set list : List Row) → list_all (row_of_model d) list ≡ true → rule_2_checked d dead set list ≡ rule_2_checked d gone set list
    rule_2_alike set list fit =
        ap (unless_step LeadsOut) (pairs_alike (stays_in dead set) (stays_in gone set) d.moves 0 list (λ r a. stays_alike set r (all_among (row_of_model d) list r fit a)))

    module _ (rows list : List Row) where
      rows_alike : rows_checked d dead rows list ≡ rows_checked d gone rows list
      rows_alike =
          behind (list_checked d.variables list) _ _ (λ listed. ap (result_and (rule_1_checked d list)) (rule_2_alike (rows ++ list) list (list_fit d list listed)))

      checked_alike : offer_checked d dead rows list ≡ offer_checked d gone rows list
      unfolding offer_checked
      checked_alike = ap (λ a. result_and a (room_checked rows list)) rows_alike

      pub offer_alike : offer_answer d dead rows list ≡ offer_answer d gone rows list
      offer_alike = ap (λ a. result_and a (Ok (length (fresh rows list)))) checked_alike

      pub offer_leaves_alike : offer_rows d dead rows list ≡ offer_rows d gone rows list
      offer_leaves_alike = ap (λ a. cond (is_ok a) (rows ++ fresh rows list) rows) checked_alike
