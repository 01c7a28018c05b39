-- What a settle adds is the largest selection of its candidates that would have passed as an offer.
use Rattle.std.proofs.Common.{◌≡◌, ℕ, Bool, true, List, [], length, is_ok, Ok, Err, refl, sym, ap, ◌∙◌, subst}
use Rattle.std.specs.Result.{result_and}
use Rattle.model.specs.declared.row.Row.{Row}
use Rattle.model.specs.Records.{ModelRecord, Sealed}
use Rattle.rules.specs.Rules.{keeps_rules}
use Rattle.book.specs.declared.settled.Settled.{Settled}
use Rattle.book.specs.Adding.{fresh}
use Rattle.settling.specs.Selections.{picked}
use Rattle.book.specs.Offers.{offer_checked}
use Rattle.book.specs.Refusals.{Checked}
use Rattle.book.specs.Settles.{left_unmarked, settle_checked, rounds}
use Rattle.book.proofs.SettleLaws.{settles_the_largest}
use Rattle.orders.specs.Orders.{Brought, settle, offered, settled}
use Rattle.orders.specs.Runs.{told_with_row, settle_told, answer, rows_after, answers_run}
use Rattle.orders.specs.WholeRuns.{rows_before, SettledTheLargest, SettledSetsAreTheLargest}
use Rattle.orders.proofs.Kept.{kept_at}
use Rattle.orders.proofs.Runs.{told_at, rows_next}

-- an order that is not refused was checked
passed_settle : (a : Checked) (s : Settled) (added rounds : ℕ) → told_with_row settle_told (result_and a (Ok s)) ≡ settled added rounds → (is_ok a ≡ true) × (s.added ≡ added)
passed_settle (Ok done) s added rounds e = (refl, cc)
passed_settle (Err why) s added rounds e = absurd (cc)

passed_offer : (a : Checked) (m n : ℕ) → told_with_row offered (result_and a (Ok m)) ≡ offered n → is_ok a ≡ true
passed_offer (Ok done) m n e = refl
passed_offer (Err why) m n e = absurd (cc)

module _ (d : ModelRecord) (gone : Row → Bool) (rows candidates : List Row) where
  settled_largest : Sealed d → keeps_rules d gone rows ≡ true → (added told : ℕ) → answer d gone rows (settle candidates) ≡ settled added told → SettledTheLargest d gone candidates rows (rows_after d gone rows (settle candidates)) added
  unfolding answer rows_after
  settled_largest sealed rules added told e =
      let new = left_unmarked d gone rows candidates in
      let passed = passed_settle (settle_checked d gone rows candidates) (record { added = length (fresh rows new); rounds = rounds d gone rows candidates }) added told e in
      let largest = settles_the_largest d gone rows candidates sealed rules passed.0 in
      let number : length (fresh rows (picked largest.places candidates)) ≡ added = ap (λ (l : List Row). length (fresh rows l)) (sym largest.unmarked_are_at_these_places) ∙ passed.1 in
      record {
        selection = largest.places;
        one_for_each_candidate = largest.one_for_each_candidate;
        it_would_have_passed = ap (told_with_row offered) largest.would_have_passed ∙ ap offered number;
        adding_the_same = largest.adding_the_same;
        others_lie_within = λ other n passes.
            let list = picked other candidates in
            largest.others_lie_within other (passed_offer (offer_checked d gone rows list) (length (fresh rows list)) n passes);
      }

module _ (d : ModelRecord) (gone : Row → Bool) (sealed : Sealed d) (orders : List Brought) where
  pub settled_sets_are_the_largest : SettledSetsAreTheLargest d gone orders (answers_run d gone [] orders)
  settled_sets_are_the_largest i candidates order added rounds answered =
      let rows = rows_before d gone orders i in
      subst (λ (after : List Row). SettledTheLargest d gone candidates rows after added) (sym (rows_next d gone orders i (settle candidates) order))
      (settled_largest d gone rows candidates sealed (kept_at d gone sealed orders i).rules added rounds
      (told_at d gone orders i (settle candidates) order (settled added rounds) answered))
