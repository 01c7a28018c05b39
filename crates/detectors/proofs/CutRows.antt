-- Rows that are open outside the variables, and their cuts.
use Rattle.std.proofs.Common.{◌≡◌, ℕ, ◌<◌, ◌≤◌, true, false, eqb, Some, None, Option, sym, refl, ap, ◌∙◌, subst, ap₂, ⊎_elim}
use Rattle.std.proofs.lemmas.Bool.{and_parts, or_left, or_right, or_cases, or_parts, not-true, not_from_false, cond-true, cond_both, eqb-true, eq-eqb, false≢true, cases_lt}
use Rattle.model.specs.declared.row.Row.{Row}
use Rattle.model.specs.declared.moves.Move.{Move}
use Rattle.lists.specs.Members.{Among}
use Rattle.model.specs.Rows.{at, keeps, differ, contained, disagree}
use Rattle.model.specs.Moves.{applicable, progression}
use Rattle.model.specs.Records.{ModelRecord}
use Rattle.lists.proofs.BelowFacts.{any_below_fails}
use Rattle.model.proofs.RowFacts.{at_row_of, open_past}
use Rattle.model.proofs.Containment.{contained_from}
use Rattle.detectors.specs.declared.pattern.cut.Cut.{Cut}
use Rattle.detectors.specs.declared.pattern.cut.CutMove.{CutMove}
use Rattle.detectors.specs.declared.pattern.variables.Variables.{Variables}
use Rattle.detectors.specs.Cuts.{entry_of, cut_of, cut_move, contained_cut, disagree_cut, applicable_cut, progression_cut}
use Rattle.detectors.specs.ReachedCuts.{is_variable, one_of, cut_row, cut_row_move, ReachedCut, own_cut, onward, NoCutRowContainsTheGoal}
use Rattle.detectors.specs.CutSameness.{from_entries}
use Rattle.detectors.proofs.CutLaws.{cut_progression, cut_applicable, cut_contained}

is_own : (o : Option ℕ) (v : ℕ) → o ≡ Some v → is_variable o v ≡ true
is_own o v e = ap (λ q. is_variable q v) e ∙ eq-eqb v v refl

own_is : (o : Option ℕ) (v : ℕ) → is_variable o v ≡ true → o ≡ Some v
own_is None v h = absurd (false≢true h)
own_is (Some u) v h = ap (λ n. Some n) (eqb-true u v h)

module _ (x : Variables) where
  -- the entry of a variable that is one of those to which the row is cut
  entry_kept : (row : Row) (o : Option ℕ) → ((v : ℕ) → o ≡ Some v → one_of x v ≡ true) → entry_of (cut_row x row) o ≡ entry_of row o
  entry_kept row None own = refl
  entry_kept row (Some v) own = ⊎_elim
      (λ (l : v < 32). at_row_of _ v l ∙ cond-true (one_of x v) (at row v) None (own v refl))
      (λ (past : 32 ≤ v). open_past (cut_row x row) v past ∙ sym (open_past row v past))
      (cases_lt v 32)

  -- a row that is cut has the cut that it had
  pub cut_of_cut_row : (row : Row) → cut_of x (cut_row x row) ≡ cut_of x row
  cut_of_cut_row row =
      from_entries (cut_of x (cut_row x row)) (cut_of x row)
      (entry_kept row (Some x.first) (λ v e. or_left (eqb x.first v) _ (is_own (Some x.first) v e)))
      (entry_kept row x.second (λ v e. or_right (eqb x.first v) _ (or_left (is_variable x.second v) _ (is_own x.second v e))))
      (entry_kept row x.third (λ v e. or_right (eqb x.first v) _ (or_right (is_variable x.second v) _ (is_own x.third v e))))

  cut_move_of_cut : (m : Move) → cut_move x (cut_row_move x m) ≡ cut_move x m
  cut_move_of_cut m = let made : Cut → Cut → CutMove = λ c e. record { conditions = c; effects = e } in ap₂ made (cut_of_cut_row m.conditions) (cut_of_cut_row m.effects)

  -- what holds of the entries of the variables, and of every open entry, holds of every entry of a row that is cut
  each_entry : (P : ℕ → Option ℕ → Type 0) (row : Row)
      → P x.first (at row x.first) → ((v : ℕ) → x.second ≡ Some v → P v (at row v)) → ((v : ℕ) → x.third ≡ Some v → P v (at row v)) → ((i : ℕ) → P i None)
      → (i : ℕ) → i < 32 → P i (at (cut_row x row) i)
  each_entry P row first second third elsewhere i l =
      subst (P i) (sym (at_row_of _ i l))
      (cond_both (one_of x i) (at row i) None (P i)
      (λ own. ⊎_elim
      (λ e. subst (λ k. P k (at row k)) (eqb-true x.first i e) first)
      (λ rest. ⊎_elim (λ e. second i (own_is x.second i e)) (λ e. third i (own_is x.third i e)) (or_cases (is_variable x.second i) (is_variable x.third i) rest))
      (or_cases (eqb x.first i) _ own))
      (λ _. elsewhere i))

  pub contained_from_cut : (r s : Row) → contained_cut (cut_of x r) (cut_of x s) ≡ true → contained (cut_row x r) s ≡ true
  contained_from_cut r s h =
      let p = and_parts (keeps (at r x.first) (at s x.first)) _ h in
      let q = and_parts (keeps (entry_of r x.second) (entry_of s x.second)) _ p.1 in
      contained_from (cut_row x r) s
      (each_entry (λ i e. keeps e (at s i) ≡ true) r p.0
      (λ v e. subst (λ o. keeps (entry_of r o) (entry_of s o) ≡ true) e q.0)
      (λ v e. subst (λ o. keeps (entry_of r o) (entry_of s o) ≡ true) e q.1)
      (λ i. refl))

  applicable_from_cut : (m : Move) (s : Row) → applicable_cut (cut_move x m) (cut_of x s) ≡ true → applicable (cut_row_move x m) s ≡ true
  applicable_from_cut m s h =
      let c = m.conditions in
      let p = or_parts (differ (at c x.first) (at s x.first)) _ (not-true (disagree_cut (cut_of x c) (cut_of x s)) h) in
      let q = or_parts (differ (entry_of c x.second) (entry_of s x.second)) _ p.1 in
      not_from_false (disagree (cut_row x c) s)
      (sym (any_below_fails (λ i. differ (at (cut_row x c) i) (at s i)) 32
      (each_entry (λ i e. differ e (at s i) ≡ false) c p.0
      (λ v e. subst (λ o. differ (entry_of c o) (entry_of s o) ≡ false) e q.0)
      (λ v e. subst (λ o. differ (entry_of c o) (entry_of s o) ≡ false) e q.1)
      (λ i. refl))))

  progression_of_cut : (m : Move) (s : Row) → cut_of x (progression (cut_row_move x m) s) ≡ progression_cut (cut_move x m) (cut_of x s)
  progression_of_cut m s = cut_progression x (cut_row_move x m) s ∙ ap (λ n. progression_cut n (cut_of x s)) (cut_move_of_cut m)

  module _ (d : ModelRecord) (row : Row) where
    -- s is the cut of a row that is reached
    abbrev pub CutReached : Cut → Type 0
    CutReached s = (t : Row) × ReachedCut d x row t × (cut_of x t ≡ s)

    pub first_reached : CutReached (cut_of x row)
    first_reached = (cut_row x row, own_cut, cut_of_cut_row row)

    pub onward_reached : (m : Move) → Among d.moves m → (s : Cut) → CutReached s → applicable_cut (cut_move x m) s ≡ true → CutReached (progression_cut (cut_move x m) s)
    onward_reached m among s r can = (
      progression (cut_row_move x m) r.0,
      onward m among r.0 r.1 (applicable_from_cut m r.0 (subst (λ c. applicable_cut (cut_move x m) c ≡ true) (sym r.2) can)),
      progression_of_cut m r.0 ∙ ap (progression_cut (cut_move x m)) r.2,
    )

    pub goal_not_reached : NoCutRowContainsTheGoal d x row → (s : Cut) → CutReached s → contained_cut (cut_of x d.goal) s ≡ true → ⊥
    goal_not_reached none s r inside = none r.0 r.1 (contained_from_cut d.goal r.0 (subst (λ c. contained_cut (cut_of x d.goal) c ≡ true) (sym r.2) inside))

    -- a property of the cuts that goes along with the moves, from the row's own cut on, holds of every row that is reached
    pub along_reached : (P : Cut → Type 0) → P (cut_of x row)
        → ((m : Move) → Among d.moves m → (s : Cut) → P s → applicable_cut (cut_move x m) s ≡ true → P (progression_cut (cut_move x m) s))
        → (t : Row) → ReachedCut d x row t → P (cut_of x t)
    along_reached P start on _ own_cut = subst P (sym (cut_of_cut_row row)) start
    along_reached P start on _ (onward m among s w can) =
        subst P (sym (progression_of_cut m s))
        (on m among (cut_of x s) (along_reached P start on s w) (subst (λ n. applicable_cut n (cut_of x s) ≡ true) (cut_move_of_cut m) (cut_applicable x (cut_row_move x m) s can)))

    pub cut_goal_inside : (s : Row) → contained (cut_row x d.goal) s ≡ true → contained_cut (cut_of x d.goal) (cut_of x s) ≡ true
    cut_goal_inside s h = subst (λ c. contained_cut c (cut_of x s) ≡ true) (cut_of_cut_row d.goal) (cut_contained x (cut_row x d.goal) s h)
