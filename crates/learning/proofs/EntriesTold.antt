-- The entries that are told are regained.
use Rattle.std.proofs.Common.{◌≡◌, ℕ, ◌+◌, ◌<◌, zero, suc, Bool, false, not, is_some, List, [], ◌∷◌, length, Some, None, Option, get_or, set, refl, sym, ap, ◌∙◌, ⊎_elim, arith}
use Rattle.std.specs.List.{filter}
use Rattle.std.specs.Option.{option_map_or}
use Rattle.std.proofs.lemmas.Bool.{and_parts, not-true}
use Rattle.model.specs.declared.row.Row.{Row}
use Rattle.model.specs.Rows.{at}
use Rattle.model.specs.Records.{ModelRecord}
use Rattle.learning.specs.Parts.{missing, regained}
use Rattle.learning.specs.Learns.{first_parts, most_regained, regain_once, regain, regain_count, learned, entries_regained}
use Rattle.learning.specs.Laws.{given_by, entries_in, EntriesToldAreRegained}
use Rattle.learning.proofs.Lowest.{lowest_found}
use Rattle.learning.proofs.Gaining.{lowest_regained, given, gained}
use Rattle.learning.proofs.StatesAndParts.{OneRegains}
use Rattle.learning.proofs.LearnLaws.{once_regained}

given_there : (es : List (Option ℕ)) (i v : ℕ) → i < length es → is_some (get_or es i None) ≡ false → length (filter (λ e. is_some e) (set es i (Some v))) ≡ suc (length (filter (λ e. is_some e) es))
given_there [] i v l none = absurd (omega arith)
given_there (None ∷ es) zero v l none = refl
given_there (Some w ∷ es) zero v l none = cc
given_there (None ∷ es) (suc i) v l none = given_there es i v (omega arith) none
given_there (Some w ∷ es) (suc i) v l none = ap (λ n. suc n) (given_there es i v (omega arith) none)

-- a part gives one variable more
one_more_given : (s p more : Row) → regained s p ≡ Some more → given_by more ≡ suc (given_by p)
one_more_given s p more is =
    let low = lowest_regained s p more is in
    let found = lowest_found (missing s p) low.0 low.1 in
    let none = not-true (is_some (at p low.0)) (and_parts (is_some (at s low.0)) (not (is_some (at p low.0))) found.0).1 in
    ap (λ r. given_by r) (sym low.2 ∙ gained s p low.0 found.0) ∙ given_there p.entries low.0 (given s p low.0 found.0).0 (omega (arith, found.1, p.full)) none

-- and so the parts have one entry more
one_entry_more : (ss ps next : List Row) → OneRegains ss ps next → entries_in next ≡ suc (entries_in ps)
unfolding entries_in
one_entry_more [] ps next one = absurd one
one_entry_more (s ∷ ss) [] next one = absurd one
one_entry_more (s ∷ ss) (p ∷ ps) [] one = absurd one
one_entry_more (s ∷ ss) (p ∷ ps) (q ∷ next) one =
    ⊎_elim
    (λ here. omega (arith, one_more_given s p q here.0, ap (λ l. entries_in l) here.1))
    (λ there. omega (arith, ap (λ r. given_by r) there.0, one_entry_more ss ps next there.1)) one

module _ (d : ModelRecord) (dead : Row → Bool) (rows states : List Row) where
  entries_counted : (n : ℕ) (ps : List Row) → entries_in (regain d dead rows states n ps) ≡ entries_in ps + regain_count d dead rows states n ps
  unfolding regain regain_count
  entries_counted zero ps = omega arith
  entries_counted (suc n) ps =
      (elim (regain_once d dead rows states ps) as (λ o. regain_once d dead rows states ps ≡ o → entries_in (option_map_or (λ more. regain d dead rows states n more) o ps) ≡ entries_in ps + option_map_or (λ more. suc (regain_count d dead rows states n more)) o 0) [
        | Some next ↦ λ is. omega (arith, one_entry_more states ps next (once_regained d dead rows states ps next is), entries_counted n next)
        | None ↦ λ _. omega arith
      ]) refl

pub entries_told_are_regained : EntriesToldAreRegained
unfolding EntriesToldAreRegained learned entries_regained
entries_told_are_regained d dead rows states = entries_counted d dead rows states (most_regained states) (first_parts d states)
