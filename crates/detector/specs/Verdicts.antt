-- What a verdict says.
use Rattle.std.specs.Prelude.{◌≡◌, Bool, true, false}
use Rattle.model.specs.declared.row.Row.{Row}
use Rattle.model.specs.Records.{ModelRecord}
use Rattle.detector.specs.declared.verdict.Verdict.{Verdict}
use Rattle.detector.specs.declared.verdict.Verdict.TheVariants.{Dead, Silent}
use Rattle.detector.specs.Laws.{RowsOfTheModelAlone, EqualMeaning}

abbrev pub says_dead : Verdict → Bool
says_dead Dead = true
says_dead Silent = false

-- detectors of equal meaning, which call rows of their models alone dead, give equal verdicts on every row: v is the one's on the row t, and w the other's
unfoldable pub EqualMeaningGivesEqualVerdicts : Type 0
EqualMeaningGivesEqualVerdicts =
    (d e : ModelRecord) (dead gone : Row → Bool) → RowsOfTheModelAlone d dead → RowsOfTheModelAlone e gone → EqualMeaning d e dead gone
    → (t : Row) (v w : Verdict) → says_dead v ≡ dead t → says_dead w ≡ gone t → v ≡ w
