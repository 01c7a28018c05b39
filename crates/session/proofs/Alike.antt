-- What comes of an order is a matter of how long the buffers are that are lent to it, and not of what lies in them.
use Rattle.std.proofs.Common.{◌≡◌, ℕ, Bool, true, false, cond, not, ◌&&◌, List, [], length, is_ok, Ok, Err, Result, nat_le, refl, sym, ap, ◌∙◌}
use Rattle.std.proofs.lemmas.List.{length-replicate}
use Rattle.std.specs.Prelude.{min, replicate, Option, Some, None, option_map, unwrap_or, ◌==◌}
use Rattle.std.specs.Result.{result_and}
use Rattle.refusal.specs.declared.Refusal.{Refusal}
use Rattle.refusal.specs.declared.Refusal.TheVariants.{BookFull, BufferTooShort}
use Rattle.model.specs.declared.row.Row.{Row}
use Rattle.model.specs.Records.{ModelRecord}
use Rattle.model.specs.Rows.{open_row}
use Rattle.model.specs.Tables.{Answer}
use Rattle.walk.specs.declared.walked.Walked.{Walked}
use Rattle.lists.specs.Fronts.{over}
use Rattle.walk.specs.Answers.{outcome_plan, work_list_after, plan_after}
use Rattle.walk.specs.Walks.{Outcome, planned, exhausted, no_place, WholeWalk, walk_from, first}
use Rattle.sheet.specs.Reading.{Told}
use Rattle.hand.specs.Gathering.{without_row}
use Rattle.book.specs.Adding.{fresh, overfull}
use Rattle.book.specs.Probes as probes
use Rattle.book.specs.Probes.{called_dead, probe_outcome, outcome_rows, parts_of, entries_of, state_checked, walk_of}
use Rattle.book.specs.Verdicts.{book_dead}
use Rattle.book.specs.Written.{rows_written}
use Rattle.orders.specs.Orders as orders
use Rattle.orders.specs.Orders.{Brought, probe, write, wrote}
use Rattle.orders.specs.Runs.{told_by, probe_told, answer, rows_after, left_of}
use Rattle.session.specs.Turns.{State, state, Lent, lent, fresh_lent, Came, answered, bytes_told, Turn, order_turn, other_turn, command_turn}
use Rattle.lists.proofs.Fronts.{front_over}

-- an answer or a refusal, with what was lent
abbrev came_with : {X : Type 0} → (X → orders.AnswerTold) → Result X Refusal → Lent → Came
came_with tell r l = answered (told_by tell r) (bytes_told (told_by tell r) l)

module _ (d : ModelRecord) (gone : Row → Bool) (s : State) where
  -- the book as it is written, if it has room
  module _ (b c : List ℕ) where
    abbrev bytes : List ℕ
    bytes = rows_written s.rows

    book_alike : (room : Bool) → came_with wrote (cond room (Ok (length bytes)) (Err BufferTooShort)) (lent [] [] (cond room (over bytes b) b)) ≡ came_with wrote (cond room (Ok (length bytes)) (Err BufferTooShort)) (lent [] [] (cond room (over bytes c) c))
    book_alike true = ap (answered (wrote (length bytes))) (front_over bytes b (length bytes) refl ∙ sym (front_over bytes c (length bytes) refl))
    book_alike false = refl

    pub write_alike : length b ≡ length c → order_turn d gone s (write b) ≡ order_turn d gone s (write c)
    unfolding answer rows_after left_of
    write_alike same =
        ap (λ (came : Came). (came, s)) (book_alike (nat_le (length bytes) (length b)) ∙ ap (λ k. came_with wrote (cond (nat_le (length bytes) k) (Ok (length bytes)) (Err BufferTooShort)) (lent [] [] (cond (nat_le (length bytes) k) (over bytes c) c))) same)

  -- a probe, with buffers of the same length
  module _ (b c : List ℕ) (same : length b ≡ length c) where
    -- what comes of a walk that has listed these states
    module _ (listed v w : List Walked) where
      plan_alike : (ns : List ℕ) (room : Bool) → came_with probe_told (cond room (Ok (probes.has_plan (length listed) (length ns))) (Err BufferTooShort)) (lent v (cond room (over ns b) b) []) ≡ came_with probe_told (cond room (Ok (probes.has_plan (length listed) (length ns))) (Err BufferTooShort)) (lent w (cond room (over ns c) c) [])
      plan_alike ns true = ap (answered (orders.has_plan (length listed) (length ns))) (front_over ns b (length ns) refl ∙ sym (front_over ns c (length ns) refl))
      plan_alike ns false = refl

      dead_alike : (rows entries : ℕ) (full : Bool) → came_with probe_told (cond full (Err BookFull) (Ok (called_dead (length listed) rows entries))) (lent v b []) ≡ came_with probe_told (cond full (Err BookFull) (Ok (called_dead (length listed) rows entries))) (lent w c [])
      dead_alike rows entries true = refl
      dead_alike rows entries false = refl

      outcome_alike : (o : Outcome) → came_with probe_told (probe_outcome d gone s.rows (length b) listed o) (lent v (outcome_plan b o) []) ≡ came_with probe_told (probe_outcome d gone s.rows (length c) listed o) (lent w (outcome_plan c o) [])
      outcome_alike (planned ns) =
          plan_alike ns (nat_le (length ns) (length b))
          ∙ ap (λ k. came_with probe_told (cond (nat_le (length ns) k) (Ok (probes.has_plan (length listed) (length ns))) (Err BufferTooShort)) (lent w (cond (nat_le (length ns) k) (over ns c) c) [])) same
      outcome_alike exhausted =
          let parts = parts_of d gone s.rows listed in
          dead_alike (length (fresh s.rows parts)) (entries_of d gone s.rows listed) (overfull s.rows parts)
      outcome_alike no_place = refl

    module _ (r : Row) (v w : List Walked) where
      -- by what is asked of the row, and by the walk that follows if the row is a state that is not called dead
      abbrev came_of : Answer → Bool → List Walked → List ℕ → WholeWalk → Came
      came_of checked called work_list plan walk =
          let walks = is_ok checked && not called in
          came_with probe_told (result_and checked (cond called (Ok (called_dead 0 0 0)) (probe_outcome d gone s.rows (length plan) walk.listed walk.outcome))) (lent (cond walks (work_list_after work_list walk) work_list) (cond walks (plan_after plan walk) plan) [])

      walk_alike : (checked : Answer) (called : Bool) (walk : WholeWalk) → came_of checked called v b walk ≡ came_of checked called w c walk
      walk_alike (Err why) called walk = refl
      walk_alike (Ok fits) true walk = refl
      walk_alike (Ok fits) false walk = outcome_alike walk.listed (work_list_after v walk) (work_list_after w walk) walk.outcome

      same_walk : length v ≡ length w → walk_of d gone s.rows r v ≡ walk_of d gone s.rows r w
      unfolding walk_of
      same_walk places = ap (λ n. walk_from d (book_dead d gone s.rows) (min 256 n) r) places

      pub probe_alike : length v ≡ length w → order_turn d gone s (probe r v b) ≡ order_turn d gone s (probe r w c)
      unfolding answer rows_after left_of
      probe_alike places =
          let checked = state_checked d.variables r in
          let called = book_dead d gone s.rows r in
          let after = λ (walk : WholeWalk). state (cond (is_ok checked && not called) (outcome_rows d gone s.rows walk.listed walk.outcome) s.rows) (without_row s.gathered) in
          let walk = walk_of d gone s.rows r w in
          ap (λ (k : WholeWalk). (came_of checked called v b k, after k)) (same_walk places) ∙ ap (λ (came : Came). (came, after walk)) (walk_alike checked called walk)

  -- so a command comes to what it would with fresh ones
  turned_alike : (b : Bool) (o p : Option Brought) (next other : Option Brought) → option_map (order_turn d gone s) o ≡ option_map (order_turn d gone s) p → option_map (order_turn d gone s) next ≡ option_map (order_turn d gone s) other → option_map (order_turn d gone s) (cond b o next) ≡ option_map (order_turn d gone s) (cond b p other)
  turned_alike true o p next other same later = same
  turned_alike false o p next other same later = later

  pub as_fresh : (l : Lent) (said : Told) → length l.work_list ≡ 256 → length l.plan ≡ 256 → length l.buffer ≡ 32768 → command_turn d gone l s said ≡ command_turn d gone fresh_lent s said
  unfolding fresh_lent
  as_fresh l said places moves bytes =
      let probed = probe_alike l.plan (replicate 256 0) (moves ∙ sym (length-replicate {A = ℕ} 256 0)) s.gathered.hand l.work_list (replicate 256 (first open_row)) (places ∙ sym (length-replicate 256 (first open_row))) in
      let wrote = write_alike l.buffer (replicate 32768 0) (bytes ∙ sym (length-replicate {A = ℕ} 32768 0)) in
      ap (λ (t : Option Turn). unwrap_or t (other_turn d gone s said))
      (turned_alike (said.0 == 0x4a) _ _ _ _ refl
      (turned_alike (said.0 == 0x51) _ _ _ _ (ap Some probed)
      (turned_alike (said.0 == 0x4f) _ _ _ _ refl
      (turned_alike (said.0 == 0x54) _ _ _ _ refl
      (turned_alike (said.0 == 0x57) _ _ None None (ap Some wrote) refl)))))
