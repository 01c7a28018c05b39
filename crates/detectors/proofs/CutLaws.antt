-- What cutting keeps of moves, of containment and of the entries that are given.
use Rattle.std.proofs.Common.{◌≡◌, ℕ, ◌<◌, ◌≤◌, true, false, is_some, Some, None, Option, sym, refl, ap, ◌∙◌, subst, ⊎_elim}
use Rattle.std.proofs.lemmas.Bool.{and_parts, and_from, or_from, not_from_false, false≢true, eqb-true, cases_lt}
use Rattle.model.specs.declared.row.Row.{Row}
use Rattle.model.specs.declared.moves.Move.{Move}
use Rattle.model.specs.Rows.{at, keeps, differ, contained}
use Rattle.model.specs.Moves.{or_else, next_entry, applicable, progression}
use Rattle.model.proofs.RowFacts.{at_row_of, open_past}
use Rattle.model.proofs.Containment.{contained_at}
use Rattle.model.proofs.Progressions.{differ_nowhere}
use Rattle.detectors.specs.declared.pattern.variables.Variables.{Variables}
use Rattle.detectors.specs.Cuts.{entry_of, cut_of, cut_move, contained_cut, disagree_cut, applicable_cut, progression_cut}
use Rattle.detectors.specs.PatternMeaning.{given_if_any, gives}
use Rattle.detectors.specs.CutSameness.{from_entries}

-- of a variable that there may not be, and that may be past every row's last
next_of : (m : Move) (s : Row) (o : Option ℕ) → entry_of (progression m s) o ≡ or_else (entry_of m.effects o) (or_else (entry_of s o) (entry_of m.conditions o))
next_of m s None = refl
next_of m s (Some v) = ⊎_elim
    (λ (l : v < 32). at_row_of (next_entry m s) v l)
    (λ (past : 32 ≤ v). open_past (progression m s) v past ∙ sym (rw (open_past m.effects v past, open_past s v past, open_past m.conditions v past) refl))
    (cases_lt v 32)

kept_of : (r t : Row) → contained r t ≡ true → (o : Option ℕ) → keeps (entry_of r o) (entry_of t o) ≡ true
kept_of r t h None = refl
kept_of r t h (Some v) = ⊎_elim (λ (l : v < 32). contained_at r t h v l) (λ (past : 32 ≤ v). rw (open_past r v past) refl) (cases_lt v 32)

apart_of : (m : Move) (s : Row) → applicable m s ≡ true → (o : Option ℕ) → differ (entry_of m.conditions o) (entry_of s o) ≡ false
apart_of m s h None = refl
apart_of m s h (Some v) = ⊎_elim (λ (l : v < 32). differ_nowhere m s h v l) (λ (past : 32 ≤ v). rw (open_past m.conditions v past) refl) (cases_lt v 32)

module _ (x : Variables) where
  pub cut_progression : (m : Move) (s : Row) → cut_of x (progression m s) ≡ progression_cut (cut_move x m) (cut_of x s)
  cut_progression m s = from_entries (cut_of x (progression m s)) (progression_cut (cut_move x m) (cut_of x s)) (next_of m s (Some x.first)) (next_of m s x.second) (next_of m s x.third)

  pub cut_applicable : (m : Move) (s : Row) → applicable m s ≡ true → applicable_cut (cut_move x m) (cut_of x s) ≡ true
  cut_applicable m s h =
      not_from_false (disagree_cut (cut_of x m.conditions) (cut_of x s))
      (or_from _ _ (apart_of m s h (Some x.first)) (or_from _ _ (apart_of m s h x.second) (apart_of m s h x.third)))

  pub cut_contained : (r t : Row) → contained r t ≡ true → contained_cut (cut_of x r) (cut_of x t) ≡ true
  cut_contained r t h = and_from _ _ (kept_of r t h (Some x.first)) (and_from _ _ (kept_of r t h x.second) (kept_of r t h x.third))

-- an entry that is given is the same in every row that contains the row
pub keeps_given : (a b : Option ℕ) → keeps a b ≡ true → is_some a ≡ true → a ≡ b
keeps_given None b k h = absurd (false≢true h)
keeps_given (Some v) None k h = absurd (false≢true k)
keeps_given (Some v) (Some w) k h = ap (λ n. Some n) (sym (eqb-true w v k))

same_of : (r t : Row) → contained r t ≡ true → (o : Option ℕ) → given_if_any r o ≡ true → (entry_of r o ≡ entry_of t o) × (given_if_any t o ≡ true)
same_of r t h None g = (refl, refl)
same_of r t h (Some v) g = let e = keeps_given (at r v) (at t v) (kept_of r t h (Some v)) g in (e, subst (λ q. is_some q ≡ true) e g)

-- so where the row gives the variables, both have the same cut
pub same_cuts : (x : Variables) (r t : Row) → contained r t ≡ true → gives r x ≡ true → (cut_of x r ≡ cut_of x t) × (gives t x ≡ true)
same_cuts x r t h g =
    let p = and_parts (given_if_any r (Some x.first)) _ g in
    let q = and_parts (given_if_any r x.second) (given_if_any r x.third) p.1 in
    let a = same_of r t h (Some x.first) p.0 in
    let b = same_of r t h x.second q.0 in
    let c = same_of r t h x.third q.1 in
    (from_entries (cut_of x r) (cut_of x t) a.0 b.0 c.0, and_from _ _ a.1 (and_from _ _ b.1 c.1))
