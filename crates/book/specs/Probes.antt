-- What a probe answers, and the rows, the work list and the plan buffer that it leaves.
use Rattle.std.specs.Prelude.{ℕ, Bool, cond, not, ◌&&◌, List, ◌++◌, length, is_ok, Ok, Err, Result, nat_le}
use Rattle.std.specs.Result.{result_and}
use Rattle.refusal.specs.declared.Refusal.{Refusal}
use Rattle.refusal.specs.declared.Refusal.TheVariants.{BookFull, OpenEntry, WorkListFull, BufferTooShort}
use Rattle.model.specs.declared.row.Row.{Row}
use Rattle.model.specs.declared.variable.Variable.{Variable}
use Rattle.model.specs.Limits.{complete}
use Rattle.model.specs.Records.{ModelRecord}
use Rattle.model.specs.Tables.{Answer}
use Rattle.model.specs.WrongEntries.{row_checked}
use Rattle.walk.specs.declared.walked.Walked.{Walked}
use Rattle.walk.specs.Walks.{Outcome, planned, exhausted, no_place, WholeWalk, walk_from}
use Rattle.walk.specs.Answers.{places_used, states_of, work_list_after, plan_after}
use Rattle.learning.specs.Learns.{learned, entries_regained}
use Rattle.book.specs.declared.probed.Probed.{Probed}
use Rattle.book.specs.declared.probed.Probed.TheVariants.{Dead, Plan}
use Rattle.book.specs.Adding.{fresh, overfull}
use Rattle.book.specs.Verdicts.{book_dead}

-- what is told of a probe that was not refused
pub data ProbeTold : Type 0 where
  -- dead: the states listed, the rows added, the entries regained
  called_dead : ℕ → ℕ → ℕ → ProbeTold
  -- a plan: the states listed, its length
  has_plan : ℕ → ℕ → ProbeTold

abbrev pub probed_told : Result Probed Refusal → Result ProbeTold Refusal
probed_told (Ok (Dead states rows entries)) = Ok (called_dead states rows entries)
probed_told (Ok (Plan states length)) = Ok (has_plan states length)
probed_told (Err why) = Err why

-- 15: the row leaves a variable of the model open
abbrev pub given_checked : List Variable → Row → Answer
given_checked vs t = cond (complete vs t) (Ok tt) (Err OpenEntry)

-- 6 or 7 for the first wrong entry, else 15
abbrev pub state_checked : List Variable → Row → Answer
state_checked vs t = result_and (row_checked vs t) (given_checked vs t)

-- A book with these rows, over a detector that carries the model d and calls the rows of `dead` dead.
module _ (d : ModelRecord) (dead : Row → Bool) (rows : List Row) where
  -- the parts that are learned of listed states, and the entries that these regained
  abbrev pub parts_of : List Walked → List Row
  parts_of listed = learned d dead rows (states_of listed)

  abbrev pub entries_of : List Walked → ℕ
  entries_of listed = entries_regained d dead rows (states_of listed)

  -- a walk without a plan: its listed states are learned, if the book has room for their parts, else 14
  abbrev pub learn_answer : List Walked → Result ProbeTold Refusal
  learn_answer listed = cond (overfull rows (parts_of listed)) (Err BookFull) (Ok (called_dead (length listed) (length (fresh rows (parts_of listed))) (entries_of listed)))

  abbrev pub learn_rows : List Walked → List Row
  learn_rows listed = cond (overfull rows (parts_of listed)) rows (rows ++ fresh rows (parts_of listed))

  -- what comes of a walk, with so many bytes for a plan: 17 for one that is longer, 16 where no place was left
  abbrev pub probe_outcome : ℕ → List Walked → Outcome → Result ProbeTold Refusal
  probe_outcome bytes listed (planned ns) = cond (nat_le (length ns) bytes) (Ok (has_plan (length listed) (length ns))) (Err BufferTooShort)
  probe_outcome bytes listed exhausted = learn_answer listed
  probe_outcome bytes listed no_place = Err WorkListFull

  abbrev pub outcome_rows : List Walked → Outcome → List Row
  outcome_rows listed (planned ns) = rows
  outcome_rows listed exhausted = learn_rows listed
  outcome_rows listed no_place = rows

  -- The row t is probed, with a work list and a plan buffer that have this content.
  module _ (t : Row) where
    -- the walk from it, over what the book does not call dead
    unfoldable pub walk_of : List Walked → WholeWalk
    walk_of work_list = walk_from d (book_dead d dead rows) (places_used work_list) t

    -- it is refused, or the book calls it dead at once, which is answered with three zeros, or what comes of the walk
    abbrev pub probe_answer : List Walked → List ℕ → Result ProbeTold Refusal
    probe_answer work_list buffer =
        result_and (state_checked d.variables t)
        (cond (book_dead d dead rows t) (Ok (called_dead 0 0 0)) (probe_outcome (length buffer) (walk_of work_list).listed (walk_of work_list).outcome))

    -- a walk takes place
    abbrev pub walks : Bool
    walks = is_ok (state_checked d.variables t) && not (book_dead d dead rows t)

    -- the book's rows afterwards
    abbrev pub probe_rows : List Walked → List Row
    probe_rows work_list = cond walks (outcome_rows (walk_of work_list).listed (walk_of work_list).outcome) rows

    -- the work list afterwards: the listed states lie at its front, also behind 14, 16 and 17; nothing changes where no walk takes place
    abbrev pub probe_work_list : List Walked → List Walked
    probe_work_list work_list = cond walks (work_list_after work_list (walk_of work_list)) work_list

    -- the plan buffer afterwards: a plan that has room lies at its front, and nothing else changes
    abbrev pub probe_plan : List Walked → List ℕ → List ℕ
    probe_plan work_list buffer = cond walks (plan_after buffer (walk_of work_list)) buffer
