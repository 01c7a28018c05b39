-- What a walk answered decides what comes of a probe.
use Rattle.std.proofs.Common.{◌≡◌, ℕ, ◌≤◌, Bool, true, false, cond, List, ◌++◌, length, take, is_ok, Ok, Err, Result, nat_le, refl}
use Rattle.std.specs.Result.{result_and}
use Rattle.refusal.specs.declared.Refusal.{Refusal}
use Rattle.refusal.specs.declared.Refusal.TheVariants.{BookFull, BufferTooShort}
use Rattle.model.specs.declared.row.Row.{Row}
use Rattle.model.specs.Records.{ModelRecord, state_of_model}
use Rattle.walk.specs.declared.walked.Walked.{Walked}
use Rattle.walk.specs.Answers as walking
use Rattle.walk.specs.Answers.{states_of}
use Rattle.learning.specs.Learns.{learned, entries_regained}
use Rattle.std.proofs.lemmas.List.{take_all}
use Rattle.walk.specs.Walks.{Outcome, planned, exhausted, no_place}
use Rattle.book.specs.declared.refused.Refused.{Refused}
use Rattle.book.specs.Adding.{fresh, overfull, room_checked}
use Rattle.book.specs.Probes.{ProbeTold, called_dead, has_plan, state_checked, parts_of, entries_of, learn_answer, learn_rows, probe_outcome, outcome_rows}
use Rattle.book.specs.Refusals.{Checked, refused}
use Rattle.book.proofs.ProbeLaws.{checked_state}

-- a plan that has room is the answer of both, and else both refuse it
plan_told : (room : Bool) (s l n m : ℕ) → ◌≡◌ {A = Result walking.WalkTold Refusal} (Ok (walking.plan s l)) (cond room (Ok (walking.plan n m)) (Err BufferTooShort)) → ◌≡◌ {A = Result ProbeTold Refusal} (Ok (has_plan s l)) (cond room (Ok (has_plan n m)) (Err BufferTooShort))
plan_told true s l n m e = let same_states : s ≡ n = cc in let same_length : l ≡ m = cc in rw (same_states, same_length) refl
plan_told false s l n m e = cc

plan_refused : (room : Bool) (why : Refusal) (n m : ℕ) → ◌≡◌ {A = Result walking.WalkTold Refusal} (Err why) (cond room (Ok (walking.plan n m)) (Err BufferTooShort)) → ◌≡◌ {A = Result ProbeTold Refusal} (Err why) (cond room (Ok (has_plan n m)) (Err BufferTooShort))
plan_refused true why n m e = cc
plan_refused false why n m e = cc

no_plan_told : (room : Bool) (s n m : ℕ) → ◌≡◌ {A = Result walking.WalkTold Refusal} (Ok (walking.no_plan s)) (cond room (Ok (walking.plan n m)) (Err BufferTooShort)) → ⊥
no_plan_told true s n m e = cc
no_plan_told false s n m e = cc

module _ (d : ModelRecord) (gone : Row → Bool) (rows : List Row) (bytes : ℕ) (listed : List Walked) where
  -- the walk answered with a plan
  pub plan_is_answered : (outcome : Outcome) (s l : ℕ) → Ok (walking.plan s l) ≡ walking.outcome_answer (length listed) bytes outcome → (Ok (has_plan s l) ≡ probe_outcome d gone rows bytes listed outcome) × (rows ≡ outcome_rows d gone rows listed outcome)
  plan_is_answered (planned ns) s l e = (plan_told (nat_le (length ns) bytes) s l (length listed) (length ns) e, refl)
  plan_is_answered exhausted s l e = cc
  plan_is_answered no_place s l e = cc

  -- it was refused
  pub refusal_is_answered : (outcome : Outcome) (why : Refusal) → Err why ≡ walking.outcome_answer (length listed) bytes outcome → (Err why ≡ probe_outcome d gone rows bytes listed outcome) × (rows ≡ outcome_rows d gone rows listed outcome)
  refusal_is_answered (planned ns) why e = (plan_refused (nat_le (length ns) bytes) why (length listed) (length ns) e, refl)
  refusal_is_answered exhausted why e = cc
  refusal_is_answered no_place why e = (cc, refl)

  -- or it took all that is listed
  pub all_were_taken : (outcome : Outcome) (s : ℕ) → Ok (walking.no_plan s) ≡ walking.outcome_answer (length listed) bytes outcome → (outcome ≡ exhausted) × (s ≡ length listed)
  all_were_taken (planned ns) s e = absurd (no_plan_told (nat_le (length ns) bytes) s (length listed) (length ns) e)
  all_were_taken exhausted s e = (refl, cc)
  all_were_taken no_place s e = cc

-- what is learned of at most 256 listed states is learned of all of them
module _ (d : ModelRecord) (gone : Row → Bool) (rows own : List Row) (same : own ≡ rows) (listed : List Walked) (few : length listed ≤ 256) where
  all : take 256 listed ≡ listed
  all = take_all 256 listed few

  pub all_are_learned : (parts : List Row) → parts ≡ learned d gone own (states_of (take 256 listed)) → parts ≡ parts_of d gone rows listed
  all_are_learned parts is = rw (all, same) at is

  pub all_are_counted : (entries : ℕ) → entries ≡ entries_regained d gone own (states_of (take 256 listed)) → entries ≡ entries_of d gone rows listed
  all_are_counted entries is = rw (all, same) at is

-- The parts are added, or the book has no room for them.
module _ (d : ModelRecord) (gone : Row → Bool) (rows : List Row) (listed : List Walked) where
  parts_told : (full : Bool) (added entries : ℕ) → ◌≡◌ {A = Result ℕ Refused} (Ok added) (result_and (cond {A = Checked} full (Err (refused BookFull)) (Ok tt)) (Ok (length (fresh rows (parts_of d gone rows listed))))) → entries ≡ entries_of d gone rows listed → ◌≡◌ {A = Result ProbeTold Refusal} (Ok (called_dead (length listed) added entries)) (cond full (Err BookFull) (Ok (called_dead (length listed) (length (fresh rows (parts_of d gone rows listed))) (entries_of d gone rows listed))))
  parts_told true added entries e same = cc
  parts_told false added entries e same = let as_many : added ≡ length (fresh rows (parts_of d gone rows listed)) = cc in rw (as_many, same) refl

  full_told : (full : Bool) (why : Refused) → ◌≡◌ {A = Result ℕ Refused} (Err why) (result_and (cond {A = Checked} full (Err (refused BookFull)) (Ok tt)) (Ok (length (fresh rows (parts_of d gone rows listed))))) → ◌≡◌ {A = Result ProbeTold Refusal} (Err why.refusal) (cond full (Err BookFull) (Ok (called_dead (length listed) (length (fresh rows (parts_of d gone rows listed))) (entries_of d gone rows listed))))
  full_told true why e = let same : why ≡ refused BookFull = cc in rw same refl
  full_told false why e = cc

  parts_added : (full : Bool) → cond (is_ok (cond {A = Checked} full (Err (refused BookFull)) (Ok tt))) (rows ++ fresh rows (parts_of d gone rows listed)) rows ≡ cond full rows (rows ++ fresh rows (parts_of d gone rows listed))
  parts_added true = refl
  parts_added false = refl

  module _ (parts : List Row) (is : parts ≡ parts_of d gone rows listed) where
    pub parts_are_told : (added entries : ℕ) → Ok added ≡ result_and (room_checked rows parts) (Ok (length (fresh rows parts))) → entries ≡ entries_of d gone rows listed → Ok (called_dead (length listed) added entries) ≡ learn_answer d gone rows listed
    parts_are_told added entries e same = parts_told (overfull rows (parts_of d gone rows listed)) added entries (rw is at e) same

    pub full_book_is_told : (why : Refused) → Err why ≡ result_and (room_checked rows parts) (Ok (length (fresh rows parts))) → Err why.refusal ≡ learn_answer d gone rows listed
    full_book_is_told why e = full_told (overfull rows (parts_of d gone rows listed)) why (rw is at e)

    pub parts_are_added : cond (is_ok (room_checked rows parts)) (rows ++ fresh rows parts) rows ≡ learn_rows d gone rows listed
    parts_are_added = rw is (parts_added (overfull rows (parts_of d gone rows listed)))

-- a row that was taken as a state is one
pub taken_state : (d : ModelRecord) (t state : Row) → Ok state ≡ result_and (state_checked d.variables t) (Ok t) → (state ≡ t) × (state_of_model d t ≡ true)
taken_state d t state e =
    let parts = taken_is (state_checked d.variables t) e in
    (parts.0, checked_state d t parts.1)
  where
    taken_is : (a : Result (Unit {0}) Refusal) → ◌≡◌ {A = Result Row Refusal} (Ok state) (result_and a (Ok t)) → (state ≡ t) × (is_ok a ≡ true)
    taken_is (Ok u) e = (cc, refl)
    taken_is (Err why) e = cc
