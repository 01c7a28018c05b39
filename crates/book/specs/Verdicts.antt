-- What a book calls dead, over a detector that carries the model d and calls the rows of `dead` dead.
use Rattle.std.specs.Prelude.{◌≡◌, Bool, true, ◌&&◌, ◌||◌, List, Ok, Err, Result}
use Rattle.std.specs.Result.{result_and}
use Rattle.std.proofs.Common.{⊎_elim}
use Rattle.std.proofs.lemmas.Bool.{and_parts, or_cases}
use Rattle.refusal.specs.declared.Refusal.{Refusal}
use Rattle.model.specs.declared.row.Row.{Row}
use Rattle.model.specs.Records.{ModelRecord, row_of_model}
use Rattle.model.specs.WrongEntries.{row_checked}
use Rattle.detector.specs.declared.verdict.Verdict.{Verdict}
use Rattle.detector.specs.Verdicts.{says_dead}
use Rattle.rules.specs.Rules.{covers}

-- the detector does, or one of the book's rows is contained in it; a row with a wrong entry is not called dead if the detector calls dead only rows
-- of its model
abbrev pub book_dead : ModelRecord → (Row → Bool) → List Row → Row → Bool
book_dead d dead rows t = dead t || (row_of_model d t && covers rows t)

-- these are rows of the model, if the detector's are
pub book_within : (d : ModelRecord) (dead : Row → Bool) (rows : List Row) → ((t : Row) → dead t ≡ true → row_of_model d t ≡ true) → (t : Row) → book_dead d dead rows t ≡ true → row_of_model d t ≡ true
book_within d dead rows within t called = ⊎_elim (within t) (λ own. (and_parts (row_of_model d t) (covers rows t) own).0) (or_cases (dead t) _ called)

-- a judgement: 6 or 7 for the first wrong entry, else whether the row is called dead
abbrev pub judge_answer : ModelRecord → (Row → Bool) → List Row → Row → Result Bool Refusal
judge_answer d dead rows t = result_and (row_checked d.variables t) (Ok (book_dead d dead rows t))

abbrev pub judged_told : Result Verdict Refusal → Result Bool Refusal
judged_told (Ok v) = Ok (says_dead v)
judged_told (Err why) = Err why
