-- What the verdicts of a book are worth, and what its orders do, apart from how they do it.
use Rattle.std.specs.Prelude.{◌≡◌, ◌≤◌, ℕ, ◌+◌, Bool, true, List, ◌++◌, length, take, Ok, Result, is_ok}
use Rattle.model.specs.declared.row.Row.{Row}
use Rattle.model.specs.Rows.{contained}
use Rattle.lists.specs.Members.{Among}
use Rattle.model.specs.Plans.{Plan, ShortestPlan}
use Rattle.model.specs.Records.{ModelRecord, Sealed, row_of_model, state_of_model}
use Rattle.detector.specs.Laws.{Lawful}
use Rattle.book.specs.Adding.{fresh}
use Rattle.refusal.specs.declared.Refusal.{Refusal}
use Rattle.book.specs.Probes as probes
use Rattle.book.specs.Offers.{offer_checked, offer_answer, offer_rows}
use Rattle.rules.specs.Rules.{KeepsBothRules}
use Rattle.settling.specs.Selections.{picked, WithinPlaces}
use Rattle.book.specs.Settles.{left_unmarked, settle_rows}
use Rattle.book.specs.Verdicts.{book_dead}

-- over a lawful detector, no state that contains a row of a set that keeps both rules has a plan
unfoldable pub NoStateWithARowOfTheSetHasAPlan : Type 0
NoStateWithARowOfTheSetHasAPlan =
    (d : ModelRecord) (dead : Row → Bool) (set : List Row) → Sealed d → Lawful d dead → KeepsBothRules d dead set
    → (r s : Row) → Among set r → state_of_model d s ≡ true → contained r s ≡ true → (ns : List ℕ) → Plan d s ns → ⊥

-- so a book over a lawful detector is lawful
abbrev pub BookIsLawful : ModelRecord → (Row → Bool) → List Row → Type 0
BookIsLawful d dead rows = Lawful d dead → Lawful d (book_dead d dead rows)

-- and an order by which its rows change keeps it so
abbrev pub StaysLawful : ModelRecord → (Row → Bool) → List Row → List Row → Type 0
StaysLawful d dead before after = Lawful d (book_dead d dead before) → Lawful d (book_dead d dead after)

-- The rows and the list together keep both rules and fit.
pub record TogetherTheyKeepTheRulesAndFit (d : ModelRecord) (dead : Row → Bool) (rows list : List Row) : Type 0 where
  pub at_most_256_in_the_list : length list ≤ 256
  pub rows_of_the_model : (r : Row) → Among list r → row_of_model d r ≡ true
  pub both_rules : KeepsBothRules d dead (rows ++ list)
  pub at_most_256_in_the_book : length rows + length (fresh rows list) ≤ 256

-- an offer to a book with these rows, of which `passes` says whether it passes, passes exactly if so
abbrev pub PassesExactly : Bool → ModelRecord → (Row → Bool) → List Row → List Row → Type 0
PassesExactly passes d dead rows list =
    (passes ≡ true → TogetherTheyKeepTheRulesAndFit d dead rows list)
    × (TogetherTheyKeepTheRulesAndFit d dead rows list → passes ≡ true)

-- A settle of the list that is not refused, where the book has these rows: the candidates that stay unmarked, taken by their places, would have
-- passed as an offer, which adds what the settle adds; and a choice of candidates that would have passed takes none of the other places.
pub record SettlesTheLargestSelection (d : ModelRecord) (dead : Row → Bool) (rows list : List Row) : Type 0 where
  pub places : List Bool
  pub one_for_each_candidate : length places ≡ length list
  pub unmarked_are_at_these_places : left_unmarked d dead rows list ≡ picked places list
  pub would_have_passed : offer_answer d dead rows (picked places list) ≡ Ok (length (fresh rows (picked places list)))
  pub adding_the_same : offer_rows d dead rows (picked places list) ≡ settle_rows d dead rows list
  pub others_lie_within : (chosen : List Bool) → is_ok (offer_checked d dead rows (picked chosen list)) ≡ true → WithinPlaces list chosen places

-- What a probe of the row t told is true, where `buffer` is what its plan buffer holds then.
pub record ProbeIsRight (d : ModelRecord) (t : Row) (told : Result probes.ProbeTold Refusal) (buffer : List ℕ) : Type 0 where
  -- a state that is called dead has no plan
  pub dead_has_no_plan : (states rows entries : ℕ) → told ≡ Ok (probes.called_dead states rows entries) → (ns : List ℕ) → Plan d t ns → ⊥
  -- the n moves at the front of the buffer are a shortest plan
  pub moves_are_a_shortest_plan : (states n : ℕ) → told ≡ Ok (probes.has_plan states n) → (length (take n buffer) ≡ n) × ShortestPlan d t (take n buffer)
