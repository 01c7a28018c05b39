-- Parts that cover a row, or do not.
use Rattle.std.proofs.Common.{◌≡◌, ℕ, ◌+◌, zero, suc, Bool, true, false, cond, ◌||◌, List, [], ◌∷◌, Some, None, Option, IfSome, get_or, set, refl, sym, subst, ⊎_elim, arith}
use Rattle.std.specs.List.{position_from, list_any}
use Rattle.std.proofs.lemmas.Bool.{or_cases, or_left, or_right}
use Rattle.model.specs.declared.row.Row.{Row}
use Rattle.model.specs.Rows.{contained}
use Rattle.model.specs.RowLaws.{ContainmentIsTransitive}
use Rattle.model.proofs.Containment.{contained_transitive}
use Rattle.rules.specs.Rules.{covers}
use Rattle.rules.proofs.Covering.{covering, covered}
use Rattle.learning.specs.Standings.{CoversAt, Covering}

none_passes : {X : Type 0} (test : X → Bool) (n : ℕ) (xs : List X) → position_from test n xs ≡ None → list_any test xs ≡ false
none_passes test n [] e = refl
none_passes test n (x ∷ xs) e =
    (elim (test x) as (λ b. cond b (Some n) (position_from test (n + 1) xs) ≡ None → (b || list_any test xs) ≡ false)
    [ true ↦ λ h. cc | false ↦ λ h. none_passes test (n + 1) xs h ]) e

pub none_covers : (parts : List Row) (t : Row) (found : Option ℕ) → IfSome found (λ k. CoversAt parts t k) → found ≡ position_from (λ p. contained p t) 0 parts → Covering parts t found
none_covers parts t None at first = none_passes (λ p. contained p t) 0 parts (sym first)
none_covers parts t (Some k) at first = at

-- a part at a place
pub covers_where : (parts : List Row) (t : Row) (k : ℕ) → CoversAt parts t k → covers parts t ≡ true
covers_where [] t k at = absurd (omega (arith, at.0))
covers_where (p ∷ ps) t zero at = or_left (contained p t) (covers ps t) at.1
covers_where (p ∷ ps) t (suc k) at = or_right (contained p t) (covers ps t) (covers_where ps t k (omega (arith, at.0), at.1))

-- what is covered by rows is covered where it is larger
pub larger_covered : (set : List Row) (t u : Row) → contained t u ≡ true → covers set t ≡ true → covers set u ≡ true
unfolding ContainmentIsTransitive
larger_covered set t u within h =
    let found = covering set t h in
    covered set u found.0 found.1 (contained_transitive found.0 t u found.2 within)

-- a part in the place of one that it contains covers no more than that did
pub no_more_covered : (parts : List Row) (k : ℕ) (old more t : Row) → old ≡ get_or parts k old → contained old more ≡ true → covers (set parts k more) t ≡ true → covers parts t ≡ true
unfolding ContainmentIsTransitive
no_more_covered [] k old more t read grew h = h
no_more_covered (p ∷ ps) zero old more t read grew h =
    ⊎_elim
    (λ own. or_left (contained p t) (covers ps t) (subst (λ r. contained r t ≡ true) read (contained_transitive old more t grew own)))
    (λ later. or_right (contained p t) (covers ps t) later)
    (or_cases (contained more t) (covers ps t) h)
no_more_covered (p ∷ ps) (suc k) old more t read grew h =
    ⊎_elim
    (λ own. or_left (contained p t) (covers ps t) own)
    (λ later. or_right (contained p t) (covers ps t) (no_more_covered ps k old more t read grew later))
    (or_cases (contained p t) (covers (set ps k more) t) h)
