-- What keeps a model within its limits.
use Rattle.std.proofs.Common.{◌≡◌, ℕ, ◌-◌, ◌<◌, ◌≤◌, true, ◌≢◌, List, [], ◌∷◌, ◌++◌, length, is_ok, Some, None, ap, ⊎_elim, arith}
use Rattle.std.proofs.lemmas.List.{get_or-replicate, get_or_past}
use Rattle.std.proofs.lemmas.Bool.{and_from, and_parts, cases_eq, cases_lt, cond_both}
use Rattle.std.proofs.lemmas.Bool.Decides.{nat_tests}
use Rattle.std.proofs.lemmas.Grind.{common_steps}
use Rattle.std.proofs.lemmas.List.Elements.{All-set, All-get_or}
use Rattle.std.proofs.lemmas.List.Sums.{AllPass-from_list_all, list_all-from_AllPass}
use Rattle.model.specs.declared.row.Row.{Row}
use Rattle.model.specs.declared.moves.Move.{Move}
use Rattle.model.specs.declared.variable.Variable.{Variable}
use Rattle.model.specs.Rows.{open_row, with_entry}
use Rattle.model.specs.Limits.{size_at, entry_fits, row_fits, move_fits, moves_fit}
use Rattle.model.specs.Tables.{begun, begin_answer, with_begun, last_begun, with_last}
use Rattle.model.specs.declared.in_hand.Part.{Part}
use Rattle.model.specs.declared.in_hand.Part.TheVariants.{Conditions, Effects}
use Rattle.model.specs.Writing.{entry_answer, entered, move_entered}
use Rattle.lists.proofs.BelowFacts.{all_below_decides}

module _ (vs : List Variable) where
  pub open_fits : row_fits vs open_row ≡ true
  open_fits = (all_below_decides _ 32).1 (λ i l. ap (entry_fits (size_at vs i)) (get_or-replicate 32 i None None l))

  pub begun_fits : (name : List ℕ) → move_fits vs (begun name) ≡ true
  begun_fits name = and_from _ _ open_fits open_fits

  -- the moves with one more, or as they were where there is no room
  pub with_begun_fits : (ms : List Move) (name : List ℕ) → moves_fit vs ms ≡ true → moves_fit vs (with_begun ms name) ≡ true
  with_begun_fits ms name fit = cond_both (is_ok (begin_answer ms)) (ms ++ begun name ∷ []) ms (λ l. moves_fit vs l ≡ true) (λ _. grind (arith, common_steps, begun_fits name)) (λ _. fit)

  -- a row with one more value that is below its variable's size
  with_entry_fits : (row : Row) (i v : ℕ) → i < 32 → row_fits vs row ≡ true → v < size_at vs i → row_fits vs (with_entry row i (Some v)) ≡ true
  with_entry_fits row i v within fits below = (all_below_decides _ 32).1 (λ k l.
      let here = (all_below_decides _ 32).0 fits k l in ⊎_elim
      (λ (e : k ≡ i). rw e (grind (arith, common_steps, nat_tests, row.full)))
      (λ (ne : k ≢ i). grind (arith, common_steps))
      (cases_eq k i))

  -- what an entry that is accepted was asked
  accepted : (row : Row) (i v : ℕ) → is_ok (entry_answer vs row i v) ≡ true → (i < length vs) × (v < size_at vs i)
  accepted row i v e = (grind (arith, nat_tests), grind (arith, nat_tests))

  -- a row that fits, with an entry that is accepted or refused, fits again
  pub entered_fits : (row : Row) (i v : ℕ) → length vs ≤ 32 → row_fits vs row ≡ true → row_fits vs (entered vs row i v) ≡ true
  entered_fits row i v few fits =
      cond_both (is_ok (entry_answer vs row i v)) _ _ (λ r. row_fits vs r ≡ true)
      (λ e. let asked = accepted row i v e in with_entry_fits row i v (omega arith) fits asked.1) (λ _. fits)

  last_fits : (ms : List Move) → moves_fit vs ms ≡ true → move_fits vs (last_begun ms) ≡ true
  last_fits ms h = ⊎_elim
      (λ (l : length ms - 1 < length ms). All-get_or (λ m. move_fits vs m ≡ true) ms _ _ l (AllPass-from_list_all _ ms h))
      (λ (none : length ms ≤ length ms - 1). rw get_or_past (begun_fits []))
      (cases_lt (length ms - 1) (length ms))

  -- a move that fits, with an entry in one of its rows
  move_entered_fits : (part : Part) (m : Move) (i v : ℕ) → length vs ≤ 32 → move_fits vs m ≡ true → move_fits vs (move_entered part vs m i v) ≡ true
  move_entered_fits Conditions m i v few fits =
      let rows = and_parts _ _ fits in and_from _ _ (entered_fits m.conditions i v few rows.0) rows.1
  move_entered_fits Effects m i v few fits =
      let rows = and_parts _ _ fits in and_from _ _ rows.0 (entered_fits m.effects i v few rows.1)

  pub entered_in_last_fits : (part : Part) (ms : List Move) (i v : ℕ) → length vs ≤ 32 → moves_fit vs ms ≡ true → moves_fit vs (with_last ms (move_entered part vs (last_begun ms) i v)) ≡ true
  entered_in_last_fits part ms i v few fit =
      let entered = move_entered_fits part (last_begun ms) i v few (last_fits ms fit) in
      list_all-from_AllPass _ _ (All-set (λ m. move_fits vs m ≡ true) ms _ _ entered (AllPass-from_list_all _ ms fit))
