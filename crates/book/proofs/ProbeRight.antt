-- What a probe tells is true.
use Rattle.std.proofs.Common.{◌≡◌, ℕ, Bool, true, List, length, take, drop, Ok, Err, Result, nat_le, refl, sym, ap, ◌∙◌, subst}
use Rattle.std.proofs.Math.Seq.{take-append_seam}
use Rattle.std.proofs.lemmas.Bool.{cond_both, cond-true}
use Rattle.refusal.specs.declared.Refusal.{Refusal}
use Rattle.model.specs.declared.row.Row.{Row}
use Rattle.model.specs.Plans.{ShortestPlan}
use Rattle.model.specs.Records.{ModelRecord, Sealed, state_of_model}
use Rattle.detector.specs.Laws.{Lawful}
use Rattle.walk.specs.declared.walked.Walked.{Walked}
use Rattle.walk.specs.Walks.{Outcome, planned, exhausted, no_place, WholeWalk}
use Rattle.walk.specs.Answers.{places_used, outcome_plan, plan_after}
use Rattle.lists.specs.Fronts.{over}
use Rattle.walk.specs.Laws.{WalkTells}
use Rattle.walk.proofs.WalkLaws.{walk_tells}
use Rattle.book.specs.Adding.{overfull}
use Rattle.book.specs.Laws.{ProbeIsRight}
use Rattle.book.specs.Probes.{ProbeTold, called_dead, has_plan, parts_of, probe_outcome, walk_of, walks, probe_answer, probe_plan}
use Rattle.book.specs.Verdicts.{book_dead}
use Rattle.book.proofs.ProbeCases.{probe_cases}

module _ (d : ModelRecord) (gone : Row → Bool) (rows : List Row) (t : Row) where
  -- a walk with a plan of n moves, for which the buffer has room
  record Found (bytes n : ℕ) (outcome : Outcome) : Type 0 where
    moves : List ℕ
    is : outcome ≡ planned moves
    so_many : length moves ≡ n
    room : nat_le (length moves) bytes ≡ true

  module _ (bytes : ℕ) (listed : List Walked) where
    told_a_plan : (outcome : Outcome) (states n : ℕ) → probe_outcome d gone rows bytes listed outcome ≡ Ok (has_plan states n) → Found bytes n outcome
    told_a_plan (planned ns) states n =
        cond_both (nat_le (length ns) bytes) _ _ (λ (a : Result ProbeTold Refusal). a ≡ Ok (has_plan states n) → Found bytes n (planned ns))
        (λ room e. record { moves = ns; is = refl; so_many = cc; room = room })
        (λ _ e. absurd (cc))
    told_a_plan exhausted states n =
        cond_both (overfull rows (parts_of d gone rows listed)) _ _ (λ (a : Result ProbeTold Refusal). a ≡ Ok (has_plan states n) → Found bytes n exhausted)
        (λ _ e. absurd (cc)) (λ _ e. absurd (cc))
    told_a_plan no_place states n = λ e. absurd (cc)

    told_dead : (outcome : Outcome) (states new entries : ℕ) → probe_outcome d gone rows bytes listed outcome ≡ Ok (called_dead states new entries) → outcome ≡ exhausted
    told_dead (planned ns) states new entries =
        cond_both (nat_le (length ns) bytes) _ _ (λ (a : Result ProbeTold Refusal). a ≡ Ok (called_dead states new entries) → planned ns ≡ exhausted)
        (λ _ e. absurd (cc)) (λ _ e. absurd (cc))
    told_dead exhausted states new entries = λ _. refl
    told_dead no_place states new entries = λ e. absurd (cc)

  module _ (work_list : List Walked) (buffer : List ℕ) (n : ℕ) (walked : walks d gone rows t ≡ true) where
    abbrev w : WholeWalk
    w = walk_of d gone rows t work_list

    plan_in_front : (found : Found (length buffer) n w.outcome) → take n (probe_plan d gone rows t work_list buffer) ≡ found.moves
    plan_in_front found =
        let ns = found.moves in
        ap (take n) (cond-true (walks d gone rows t) (plan_after buffer w) buffer walked ∙ ap (outcome_plan buffer) found.is ∙ cond-true (nat_le (length ns) (length buffer)) (over ns buffer) buffer found.room)
        ∙ ap (λ k. take k (over ns buffer)) (sym found.so_many)
        ∙ take-append_seam ns (drop (length ns) buffer)

  module _ (sealed : Sealed d) (lawful : Lawful d (book_dead d gone rows)) (work_list : List Walked) (buffer : List ℕ) where
    tells : state_of_model d t ≡ true → WalkTells d (book_dead d gone rows) (places_used work_list) t (walk_of d gone rows t work_list)
    unfolding walk_of
    tells state = walk_tells d (book_dead d gone rows) (places_used work_list) t sealed state

    abbrev Right : Result ProbeTold Refusal → Type 0
    Right told = ProbeIsRight d t told (probe_plan d gone rows t work_list buffer)

    refused_right : (why : Refusal) → Right (Err why)
    refused_right why = record { dead_has_no_plan = λ s r e is. absurd (cc); moves_are_a_shortest_plan = λ s n is. absurd (cc) }

    called_right : state_of_model d t ≡ true → book_dead d gone rows t ≡ true → Right (Ok (called_dead 0 0 0))
    called_right state called = record {
      dead_has_no_plan = λ s r e is. lawful.dead_states_have_no_plan t state called;
      moves_are_a_shortest_plan = λ s n is. absurd (cc);
    }

    walked_right : state_of_model d t ≡ true → walks d gone rows t ≡ true → Right (let w = walk_of d gone rows t work_list in probe_outcome d gone rows (length buffer) w.listed w.outcome)
    walked_right state walked =
        let w = walk_of d gone rows t work_list in
        let told = tells state in
        record {
          dead_has_no_plan = λ s r e is. told.no_plan_left lawful (told_dead (length buffer) w.listed w.outcome s r e is);
          moves_are_a_shortest_plan = λ s n is.
              let found = told_a_plan (length buffer) w.listed w.outcome s n is in
              subst (λ (ns : List ℕ). (length ns ≡ n) × ShortestPlan d t ns) (sym (plan_in_front work_list buffer n walked found)) (
                found.so_many,
                record { is_a_plan = told.plan_found found.moves found.is; none_is_shorter = told.plan_is_shortest lawful found.moves found.is },
              );
        }

    pub probe_is_right : Right (probe_answer d gone rows t work_list buffer)
    probe_is_right = probe_cases d t gone rows work_list buffer Right (λ why _. refused_right why) called_right walked_right
