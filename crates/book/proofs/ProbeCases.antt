-- What a judgement and a probe answer, case by case.
use Rattle.std.proofs.Common.{◌≡◌, Bool, true, not, cond, List, ℕ, length, is_ok, Ok, Err, Result, refl}
use Rattle.std.proofs.lemmas.Bool.{and_from, not_from_false, cond_both}
use Rattle.std.specs.Result.{result_and}
use Rattle.refusal.specs.declared.Refusal.{Refusal}
use Rattle.model.specs.declared.row.Row.{Row}
use Rattle.model.specs.Records.{ModelRecord, row_of_model, state_of_model}
use Rattle.model.specs.Tables.{Answer}
use Rattle.model.specs.WrongEntries.{row_checked}
use Rattle.model.proofs.WrongEntries.{row_passes}
use Rattle.walk.specs.declared.walked.Walked.{Walked}
use Rattle.book.specs.Probes.{ProbeTold, called_dead, state_checked, probe_outcome, walk_of, walks, probe_answer}
use Rattle.book.specs.Verdicts.{book_dead, judge_answer}
use Rattle.book.proofs.ProbeLaws.{checked_state}

-- a check, and what is answered if it passes
pub check_cases : {X : Type 0} (a : Answer) (b : Result X Refusal) (P : Result X Refusal → Type 0) → ((why : Refusal) → a ≡ Err why → P (Err why)) → (is_ok a ≡ true → P b) → P (result_and a b)
check_cases (Ok done) b P fails passes = passes refl
check_cases (Err why) b P fails passes = fails why refl

module _ (d : ModelRecord) (r : Row) where
  module _ (gone : Row → Bool) (rows : List Row) where
    -- a judgement is refused for an entry, or tells whether the book calls a row of the model dead
    pub judge_cases : (P : Result Bool Refusal → Type 0) → ((why : Refusal) → row_checked d.variables r ≡ Err why → P (Err why)) → (row_of_model d r ≡ true → P (Ok (book_dead d gone rows r))) → P (judge_answer d gone rows r)
    judge_cases P wrong told = check_cases (row_checked d.variables r) (Ok (book_dead d gone rows r)) P wrong (λ h. told (row_passes d r h))

    -- what the walk from the row answers
    abbrev pub walked_answer : List Walked → List ℕ → Result ProbeTold Refusal
    walked_answer work_list plan = let w = walk_of d gone rows r work_list in probe_outcome d gone rows (length plan) w.listed w.outcome

    -- a probe is refused for an entry, or the book calls a state of the model dead, or a walk from it answers
    pub probe_cases : (work_list : List Walked) (plan : List ℕ) (P : Result ProbeTold Refusal → Type 0)
        → ((why : Refusal) → state_checked d.variables r ≡ Err why → P (Err why))
        → (state_of_model d r ≡ true → book_dead d gone rows r ≡ true → P (Ok (called_dead 0 0 0)))
        → (state_of_model d r ≡ true → walks d gone rows r ≡ true → P (walked_answer work_list plan))
        → P (probe_answer d gone rows r work_list plan)
    probe_cases work_list plan P wrong called walked =
        let checked = state_checked d.variables r in
        check_cases checked (cond (book_dead d gone rows r) (Ok (called_dead 0 0 0)) (walked_answer work_list plan)) P wrong
        (λ passes. cond_both (book_dead d gone rows r) (Ok (called_dead 0 0 0)) (walked_answer work_list plan) P
        (called (checked_state d r passes))
        (λ silent. walked (checked_state d r passes) (and_from (is_ok checked) (not (book_dead d gone rows r)) passes (not_from_false (book_dead d gone rows r) silent))))
