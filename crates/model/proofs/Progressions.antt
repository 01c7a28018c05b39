-- Moves keep containment, and take states to states.
use Rattle.std.proofs.Common.{◌≡◌, ℕ, ◌<◌, ◌≤◌, true, false, List, length, is_some, Some, None, Option, sym, refl, ap, ◌∙◌, ⊎_elim, arith}
use Rattle.std.proofs.lemmas.Bool.{and_from, and_parts, cases_lt, not-true, not_from_false}
use Rattle.std.proofs.lemmas.Bool.Decides.{nat_tests}
use Rattle.std.proofs.lemmas.List.{get_or_past}
use Rattle.model.specs.declared.row.Row.{Row}
use Rattle.model.specs.declared.moves.Move.{Move}
use Rattle.model.specs.declared.variable.Variable.{Variable}
use Rattle.model.specs.Rows.{at, keeps, differ, contained, disagree}
use Rattle.model.specs.Moves.{or_else, next_entry, applicable, progression, successor}
use Rattle.model.specs.Limits.{size_at, entry_fits, row_fits, move_fits, complete, no_variable}
use Rattle.model.specs.Records.{ModelRecord, state_of_model, Sealed, row_of_model}
use Rattle.model.specs.MoveLaws.{SmallerRowKeepsMovesApplicable, SmallerRowHasSmallerProgression, ProgressionOfAStateIsItsSuccessor}
use Rattle.lists.proofs.BelowFacts.{all_below_decides, any_below_decides, any_below_fails}
use Rattle.model.specs.SameRows.{row_ext}
use Rattle.model.proofs.RowFacts.{at_row_of, open_past}
use Rattle.model.proofs.Containment.{contained_at, contained_from, keeps_refl}
use Rattle.lists.specs.Members.{Among}
use Rattle.lists.proofs.Members.{all_among}

-- the conditions c, the entry a of the smaller row and the entry b of the larger one
keeps_differ : (c a b : Option ℕ) → keeps a b ≡ true → differ c b ≡ false → differ c a ≡ false
keeps_differ None a b p q = refl
keeps_differ (Some u) None b p q = refl
keeps_differ (Some u) (Some v) None p q = cc
keeps_differ (Some u) (Some v) (Some w) p q = grind (arith, nat_tests)

keeps_next : (e r t c : Option ℕ) → keeps r t ≡ true → differ c t ≡ false → keeps (or_else e (or_else r c)) (or_else e (or_else t c)) ≡ true
keeps_next (Some u) r t c p q = keeps_refl (Some u)
keeps_next None None None c p q = keeps_refl c
keeps_next None None (Some w) None p q = refl
keeps_next None None (Some w) (Some u) p q = grind (arith, nat_tests)
keeps_next None (Some v) None c p q = cc
keeps_next None (Some v) (Some w) c p q = p

-- where the conditions do not disagree, they differ nowhere
pub differ_nowhere : (m : Move) (t : Row) → applicable m t ≡ true → (i : ℕ) → i < 32 → differ (at m.conditions i) (at t i) ≡ false
differ_nowhere m t h i l =
    let agree = not-true (disagree m.conditions t) h in
    grind (arith, (any_below_decides (λ k. differ (at m.conditions k) (at t k)) 32).1)

pub smaller_applicable : SmallerRowKeepsMovesApplicable
unfolding SmallerRowKeepsMovesApplicable
smaller_applicable m r t h a =
    not_from_false (disagree m.conditions r)
    (sym (any_below_fails (λ k. differ (at m.conditions k) (at r k)) 32
    (λ i l. keeps_differ (at m.conditions i) (at r i) (at t i) (contained_at r t h i l) (differ_nowhere m t a i l))))

pub smaller_progression : SmallerRowHasSmallerProgression
unfolding SmallerRowHasSmallerProgression
smaller_progression m r t h a =
    contained_from (progression m r) (progression m t)
    (λ i l. rw (at_row_of (next_entry m r) i l, at_row_of (next_entry m t) i l)
    (keeps_next (at m.effects i) (at r i) (at t i) (at m.conditions i) (contained_at r t h i l) (differ_nowhere m t a i l)))

-- a value fits no variable of size 0
pub entry_fits_none : (n : ℕ) (e : Option ℕ) → n ≡ 0 → entry_fits n e ≡ true → e ≡ None
entry_fits_none n None z h = refl
entry_fits_none n (Some v) z h = grind (arith, nat_tests)

keeps_fits : (n : ℕ) (a b : Option ℕ) → keeps a b ≡ true → entry_fits n b ≡ true → entry_fits n a ≡ true
keeps_fits n None b k h = refl
keeps_fits n (Some v) None k h = cc
keeps_fits n (Some v) (Some w) k h = grind (arith, nat_tests)

module _ (vs : List Variable) where
  pub fits_at : (row : Row) → row_fits vs row ≡ true → (i : ℕ) → i < 32 → entry_fits (size_at vs i) (at row i) ≡ true
  fits_at row fits = (all_below_decides (λ i. entry_fits (size_at vs i) (at row i)) 32).0 fits

  -- what is contained in a row over the variables is one
  pub contained_fits : (r t : Row) → contained r t ≡ true → row_fits vs t ≡ true → row_fits vs r ≡ true
  contained_fits r t within fits =
      (all_below_decides (λ i. entry_fits (size_at vs i) (at r i)) 32).1
      (λ i l. keeps_fits (size_at vs i) (at r i) (at t i) (contained_at r t within i l) (fits_at t fits i l))

  -- a row gives nothing past the variables
  open_past_variables : (row : Row) → row_fits vs row ≡ true → (i : ℕ) → i < 32 → length vs ≤ i → at row i ≡ None
  open_past_variables row fits i l past =
      entry_fits_none (size_at vs i) (at row i) (ap (λ (v : Variable). v.size) (get_or_past vs i no_variable past)) (fits_at row fits i l)

  given_at : (row : Row) → complete vs row ≡ true → (i : ℕ) → i < length vs → is_some (at row i) ≡ true
  given_at row whole = (all_below_decides (λ i. is_some (at row i)) (length vs)).0 whole

-- the next entry, where the entry t of the state is given
next_given : (e t c : Option ℕ) → is_some t ≡ true → or_else e (or_else t c) ≡ or_else e t
next_given e None c h = cc
next_given e (Some v) c h = refl

next_open : (e t c : Option ℕ) → c ≡ None → or_else e (or_else t c) ≡ or_else e t
next_open e None c h = ap (or_else e) h
next_open e (Some v) c h = refl

or_else_some : (e t : Option ℕ) → is_some t ≡ true → is_some (or_else e t) ≡ true
or_else_some None t h = h
or_else_some (Some v) t h = refl

or_else_fits : (n : ℕ) (e t : Option ℕ) → entry_fits n e ≡ true → entry_fits n t ≡ true → entry_fits n (or_else e t) ≡ true
or_else_fits n None t h k = k
or_else_fits n (Some v) t h k = h

-- a move between rows over the variables takes such rows to such rows
progression_fits : (vs : List Variable) (m : Move) (r : Row) → row_fits vs m.conditions ≡ true → row_fits vs m.effects ≡ true → row_fits vs r ≡ true → row_fits vs (progression m r) ≡ true
progression_fits vs m r conditions effects fits =
    (all_below_decides (λ i. entry_fits (size_at vs i) (at (progression m r) i)) 32).1 (λ i l.
    ap (entry_fits (size_at vs i)) (at_row_of (next_entry m r) i l)
    ∙ or_else_fits (size_at vs i) (at m.effects i) (or_else (at r i) (at m.conditions i)) (fits_at vs m.effects effects i l)
    (or_else_fits (size_at vs i) (at r i) (at m.conditions i) (fits_at vs r fits i l) (fits_at vs m.conditions conditions i l)))

pub row_progresses : (d : ModelRecord) → Sealed d → (m : Move) → Among d.moves m → (r : Row) → row_of_model d r ≡ true → row_of_model d (progression m r) ≡ true
row_progresses d sealed m among r fits =
    let parts = and_parts (row_fits d.variables m.conditions) (row_fits d.variables m.effects) (all_among (move_fits d.variables) d.moves m sealed.move_values_below_sizes among) in
    progression_fits d.variables m r parts.0 parts.1 fits

module _ (vs : List Variable) (m : Move) (s : Row) (conditions : row_fits vs m.conditions ≡ true) (effects : row_fits vs m.effects ≡ true) (fits : row_fits vs s ≡ true) (whole : complete vs s ≡ true) where
  next_is : (i : ℕ) → i < 32 → at (progression m s) i ≡ or_else (at m.effects i) (at s i)
  next_is i l = at_row_of (next_entry m s) i l ∙ ⊎_elim
      (λ (within : i < length vs). next_given (at m.effects i) (at s i) (at m.conditions i) (given_at vs s whole i within))
      (λ (past : length vs ≤ i). next_open (at m.effects i) (at s i) (at m.conditions i) (open_past_variables vs m.conditions conditions i l past))
      (cases_lt i (length vs))

  progression_is_successor : progression m s ≡ successor m s
  progression_is_successor = row_ext (progression m s) (successor m s) (λ i l. next_is i l ∙ sym (at_row_of (λ k. or_else (at m.effects k) (at s k)) i l))

  -- a state gives no variable past the 32nd, so there is none
  within_32 : (i : ℕ) → is_some (at s i) ≡ true → i < 32
  within_32 i given = grind (arith, open_past s i)

  progression_complete : complete vs (progression m s) ≡ true
  progression_complete =
      (all_below_decides (λ i. is_some (at (progression m s) i)) (length vs)).1
      (λ i l. let given = given_at vs s whole i l in ap is_some (next_is i (within_32 i given)) ∙ or_else_some (at m.effects i) (at s i) given)

pub state_progresses : (d : ModelRecord) (m : Move) (s : Row) → move_fits d.variables m ≡ true → state_of_model d s ≡ true → state_of_model d (progression m s) ≡ true
state_progresses d m s fits state =
    let vs = d.variables in
    let parts = and_parts (row_fits vs m.conditions) (row_fits vs m.effects) fits in
    let of_state = and_parts (row_fits vs s) (complete vs s) state in
    and_from _ _ (progression_fits vs m s parts.0 parts.1 of_state.0) (progression_complete vs m s parts.0 parts.1 of_state.0 of_state.1)

pub state_successor : ProgressionOfAStateIsItsSuccessor
unfolding ProgressionOfAStateIsItsSuccessor SmallerRowHasSmallerProgression
state_successor d m r s fits state within a =
    let vs = d.variables in
    let parts = and_parts (row_fits vs m.conditions) (row_fits vs m.effects) fits in
    let of_state = and_parts (row_fits vs s) (complete vs s) state in (
      progression_is_successor vs m s parts.0 parts.1 of_state.0 of_state.1,
      state_progresses d m s fits state,
      smaller_progression m r s within a,
    )
