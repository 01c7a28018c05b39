-- Detectors of equal meaning.
use Rattle.std.proofs.Common.{◌≡◌, Bool, true, false, sym, refl, ap, ◌∙◌, subst}
use Rattle.std.proofs.lemmas.Bool.{and_parts, false≢true, true≢false}
use Rattle.model.specs.declared.row.Row.{Row}
use Rattle.model.specs.Limits.{complete}
use Rattle.model.specs.Records.{ModelRecord, row_of_model}
use Rattle.model.proofs.Progressions.{contained_fits}
use Rattle.detector.specs.declared.verdict.Verdict.{Verdict}
use Rattle.detector.specs.declared.verdict.Verdict.TheVariants.{Dead, Silent}
use Rattle.detector.specs.Laws.{Lawful, RowsOfTheModelAlone, EqualMeaning, EqualMeaningKeepsTheLaws}
use Rattle.detector.specs.Verdicts.{says_dead, EqualMeaningGivesEqualVerdicts}

-- the laws speak of rows of the model alone: of its states, and of what is contained in its rows
pub keeps_the_laws : EqualMeaningKeepsTheLaws
unfolding EqualMeaningKeepsTheLaws
keeps_the_laws d e dead gone equal laws =
    let same = equal.same_dead_rows in
    subst (λ m. Lawful m gone) equal.same_model
    (record {
      containing_rows_are_dead = λ r t h fits within.
          let smaller = same r (contained_fits d.variables r t within fits) in sym (same t fits) ∙ laws.containing_rows_are_dead r t (smaller ∙ h) fits within;
      dead_states_have_no_plan = λ s state h. laws.dead_states_have_no_plan s state (same s (and_parts (row_of_model d s) (complete d.variables s) state).0 ∙ h);
    })

-- a row that is no row of the model is in neither set
same_on : (fits dead gone : Bool) → (dead ≡ true → fits ≡ true) → (gone ≡ true → fits ≡ true) → (fits ≡ true → dead ≡ gone) → dead ≡ gone
same_on true dead gone h k same = same refl
same_on false true gone h k same = absurd (false≢true (h refl))
same_on false false true h k same = absurd (false≢true (k refl))
same_on false false false h k same = refl

same_on_all_rows : (d e : ModelRecord) (dead gone : Row → Bool) → RowsOfTheModelAlone d dead → RowsOfTheModelAlone e gone → EqualMeaning d e dead gone → (t : Row) → dead t ≡ gone t
same_on_all_rows d e dead gone own other equal t =
    same_on (row_of_model d t) (dead t) (gone t) (own t) (λ h. ap (λ m. row_of_model m t) equal.same_model ∙ other t h) (equal.same_dead_rows t)

same_verdict : (v w : Verdict) → says_dead v ≡ says_dead w → v ≡ w
same_verdict Dead Dead h = refl
same_verdict Dead Silent h = absurd (true≢false h)
same_verdict Silent Dead h = absurd (false≢true h)
same_verdict Silent Silent h = refl

pub equal_verdicts : EqualMeaningGivesEqualVerdicts
unfolding EqualMeaningGivesEqualVerdicts
equal_verdicts d e dead gone own other equal t v w one two = same_verdict v w (one ∙ same_on_all_rows d e dead gone own other equal t ∙ sym two)
