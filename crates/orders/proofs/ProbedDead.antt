-- A state of which a probe answers dead is called dead by the book that the probe leaves.
use Rattle.std.proofs.Common.{◌≡◌, ℕ, Bool, true, false, ◌&&◌, cond, List, ◌++◌, length, Result, nat_le, refl, sym, ap, ◌∙◌, subst}
use Rattle.std.proofs.lemmas.Bool.{and_parts, and_from, or_right, false≢true, cond_both, cond-true, cond-false}
use Rattle.refusal.specs.declared.Refusal.{Refusal}
use Rattle.model.specs.declared.row.Row.{Row}
use Rattle.model.specs.Limits.{complete}
use Rattle.lists.specs.Members.{Among}
use Rattle.model.specs.Records.{ModelRecord, row_of_model, state_of_model}
use Rattle.rules.specs.Rules.{covers}
use Rattle.rules.proofs.Covering.{covered}
use Rattle.learning.specs.Learns.{learned}
use Rattle.learning.specs.Laws.{PartsOf}
use Rattle.learning.proofs.LearnLaws.{learned_parts}
use Rattle.walk.specs.declared.walked.Walked.{Walked}
use Rattle.walk.specs.Walks.{Outcome, planned, exhausted, no_place, walk_from}
use Rattle.walk.specs.Answers.{places_used, states_of}
use Rattle.walk.proofs.WalkLaws.{exhausted_walk_lists_its_start}
use Rattle.book.specs.Adding.{fresh, overfull}
use Rattle.book.specs.Probes as probes
use Rattle.book.specs.Probes.{walk_of}
use Rattle.book.specs.Verdicts.{book_dead}
use Rattle.book.proofs.OfferLaws.{fresh_held}
use Rattle.orders.specs.Runs.{told_by, probe_told}
use Rattle.orders.specs.WholeRuns.{says_dead}
use Rattle.orders.proofs.Kept.{called_grows, probe_grows}
use Rattle.book.proofs.ProbeCases.{probe_cases}
use Rattle.learning.proofs.StatesAndParts.{part_of_state}

module _ (d : ModelRecord) (gone : Row → Bool) (rows : List Row) where
  -- rows with the parts cover it
  covered_afterwards : (states parts : List Row) (s : Row) → PartsOf states parts → Among states s → covers (rows ++ fresh rows parts) s ≡ true
  covered_afterwards states parts s h a =
      let part = part_of_state states parts h s a in
      covered (rows ++ fresh rows parts) s part.0 (fresh_held rows parts part.0 part.1) part.2

  module _ (r : Row) where
    called_if_covered : (more : List Row) → state_of_model d r ≡ true → covers more r ≡ true → book_dead d gone more r ≡ true
    called_if_covered more state held =
        let fits = (and_parts (row_of_model d r) (complete d.variables r) state).0 in
        or_right (gone r) (row_of_model d r && covers more r) (and_from (row_of_model d r) (covers more r) fits held)

    -- a walk without a plan, for whose parts the book has room
    record LearnedFrom (listed : List Walked) (o : Outcome) : Type 0 where
      no_plan : o ≡ exhausted
      has_room : overfull rows (probes.parts_of d gone rows listed) ≡ false

    answered_dead : (bytes : ℕ) (listed : List Walked) (o : Outcome) → says_dead (told_by probe_told (probes.probe_outcome d gone rows bytes listed o)) ≡ true → LearnedFrom listed o
    answered_dead bytes listed (planned ns) =
        cond_both (nat_le (length ns) bytes) _ _ (λ (a : Result probes.ProbeTold Refusal). says_dead (told_by probe_told a) ≡ true → LearnedFrom listed (planned ns))
        (λ _ h. absurd (false≢true h)) (λ _ h. absurd (false≢true h))
    answered_dead bytes listed exhausted =
        cond_both (overfull rows (probes.parts_of d gone rows listed)) _ _ (λ (a : Result probes.ProbeTold Refusal). says_dead (told_by probe_told a) ≡ true → LearnedFrom listed exhausted)
        (λ _ h. absurd (false≢true h)) (λ room _. record { no_plan = refl; has_room = room })
    answered_dead bytes listed no_place = λ h. absurd (false≢true h)

    -- the rows after it
    learned_rows : (listed : List Walked) (o : Outcome) → probes.walks d gone rows r ≡ true → LearnedFrom listed o → cond (probes.walks d gone rows r) (probes.outcome_rows d gone rows listed o) rows ≡ rows ++ fresh rows (probes.parts_of d gone rows listed)
    learned_rows listed o walks learned =
        let parts = probes.parts_of d gone rows listed in
        cond-true (probes.walks d gone rows r) (probes.outcome_rows d gone rows listed o) rows walks
        ∙ ap (probes.outcome_rows d gone rows listed) learned.no_plan
        ∙ cond-false (overfull rows parts) rows (rows ++ fresh rows parts) learned.has_room

    walked_covers : (work_list : List Walked) → let w = probes.walk_of d gone rows r work_list in w.outcome ≡ exhausted → covers (rows ++ fresh rows (probes.parts_of d gone rows w.listed)) r ≡ true
    unfolding walk_of
    walked_covers work_list no_plan =
        let calls = book_dead d gone rows in
        let room = places_used work_list in
        let states = states_of (walk_from d calls room r).listed in
        covered_afterwards states (learned d gone rows states) r (learned_parts d gone rows states) (exhausted_walk_lists_its_start d calls room r no_plan)

    -- the rows that the probe leaves cover the state, unless the book called it dead before
    pub probed_dead : (work_list : List Walked) (plan : List ℕ) → says_dead (told_by probe_told (probes.probe_answer d gone rows r work_list plan)) ≡ true → book_dead d gone (probes.probe_rows d gone rows r work_list) r ≡ true
    probed_dead work_list plan =
        let w = probes.walk_of d gone rows r work_list in
        let after = probes.probe_rows d gone rows r work_list in
        probe_cases d r gone rows work_list plan (λ a. says_dead (told_by probe_told a) ≡ true → book_dead d gone after r ≡ true)
        (λ why _ h. absurd (false≢true h))
        (λ _ called _. called_grows d gone rows after (probe_grows d gone rows r work_list) r called)
        (λ state walks h.
        let learned = answered_dead (length plan) w.listed w.outcome h in
        subst (λ (l : List Row). book_dead d gone l r ≡ true) (sym (learned_rows w.listed w.outcome walks learned))
        (called_if_covered (rows ++ fresh rows (probes.parts_of d gone rows w.listed)) state (walked_covers work_list learned.no_plan)))
