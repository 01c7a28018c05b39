-- A walk that ends without a plan has listed states that are closed under the moves.
use Rattle.std.proofs.Common.{◌≡◌, ℕ, zero, suc, ◌<◌, ◌≤◌, Bool, true, false, ◌⊎◌, List, [], ◌∷◌, length, is_some, slice_get, Option, Some, None, refl, ap, subst, ⊎_elim, inl, inr, arith}
use Rattle.std.proofs.lemmas.Bool.{both_ways, and_parts, true_from_ne_false, false_from_ne_true}
use Rattle.std.proofs.lemmas.Bool.Decides.{nat_tests}
use Rattle.std.proofs.lemmas.List.{get_or_past}
use Rattle.std.proofs.lemmas.Option.{slice_get_within}
use Rattle.model.specs.declared.row.Row.{Row}
use Rattle.model.specs.declared.moves.Move.{Move}
use Rattle.model.specs.declared.variable.Variable.{Variable}
use Rattle.model.specs.Rows.{at, keeps, differ, contained, disagree}
use Rattle.model.specs.Limits.{no_variable, size_at, entry_fits, complete}
use Rattle.lists.specs.Members.{Among}
use Rattle.model.specs.Moves.{applicable, progression}
use Rattle.model.specs.Plans.{Plan}
use Rattle.model.specs.Records.{ModelRecord, Sealed, row_of_model, state_of_model}
use Rattle.lists.proofs.BelowFacts.{all_below_decides, any_below_decides}
use Rattle.model.proofs.Containment.{contained_from}
use Rattle.model.proofs.Progressions.{fits_at}
use Rattle.detector.specs.Laws.{Lawful}
use Rattle.walk.specs.declared.walked.Walked.{Walked}
use Rattle.walk.specs.Walks.{place}
use Rattle.walk.specs.Answers.{states_of}
use Rattle.walk.specs.Laws.{ClosedUnderMoves}
use Rattle.walk.proofs.Ways.{listed_state}
use Rattle.walk.proofs.Sound.{Sound}
use Rattle.walk.proofs.Shortest.{plan_has_a_move, plan_goes_on}

-- an element has a place
place_of_one : {X : Type 0} (xs : List X) (x : X) → Among xs x → (n : ℕ) × (slice_get xs n ≡ Some x)
place_of_one [] x a = absurd a
place_of_one (y ∷ ys) x a = ⊎_elim (λ (e : y ≡ x). (0, ap (λ z. Some z) e)) (λ b. let later = place_of_one ys x b in (suc later.0, later.1)) a

place_of_state : (listed : List Walked) (s : Row) → Among (states_of listed) s → (i : ℕ) × (i < length listed) × ((place listed i).state ≡ s)
place_of_state [] s a = absurd a
place_of_state (v ∷ vs) s a = ⊎_elim (λ e. (0, omega arith, e)) (λ b. let later = place_of_state vs s b in (suc later.0, omega (arith, later.1), later.2)) a

state_among : (listed : List Walked) (i : ℕ) → i < length listed → Among (states_of listed) (place listed i).state
state_among [] i h = absurd (omega arith)
state_among (v ∷ vs) zero h = inl refl
state_among (v ∷ vs) (suc i) h = inr (state_among vs i (omega arith))

-- where the variable i of a state does not differ from that of a row of the model, it has its value
module _ (vs : List Variable) (i : ℕ) where
  value_kept : (g s : Option ℕ) → entry_fits (size_at vs i) g ≡ true → (i < length vs → is_some s ≡ true) → differ s g ≡ false → keeps g s ≡ true
  value_kept None s fits given alike = refl
  value_kept (Some v) None fits given alike = grind (arith, nat_tests, get_or_past vs i no_variable)
  value_kept (Some v) (Some w) fits given alike = grind (arith, nat_tests)

-- a state that does not contain a row of the model disagrees with it
apart_or_contained : (d : ModelRecord) (g s : Row) → row_of_model d g ≡ true → state_of_model d s ≡ true → contained g s ≡ false → disagree s g ≡ true
apart_or_contained d g s fits state outside =
    let vs = d.variables in
    let whole = (and_parts (row_of_model d s) (complete vs s) state).1 in
    true_from_ne_false (disagree s g) (λ agree.
    both_ways (contained g s) outside (contained_from g s (λ i l.
    value_kept vs i (at g i) (at s i) (fits_at vs g fits i l) ((all_below_decides (λ k. is_some (at s k)) (length vs)).0 whole i)
    (false_from_ne_true (differ (at s i) (at g i)) (λ apart. both_ways (disagree s g) agree ((any_below_decides (λ k. differ (at s k) (at g k)) 32).1 (i, l, apart)))))))

module _ (d : ModelRecord) (dead : Row → Bool) (room : ℕ) (start : Row) (sealed : Sealed d) (state : state_of_model d start ≡ true) (end : ℕ) (listed : List Walked) (s : Sound d dead room start end listed) (all : length listed ≤ end) where
  are_states : (i : ℕ) → i < length listed → state_of_model d (place listed i).state ≡ true
  are_states = listed_state d room start listed s.traced sealed state

  goes_on_within : (i : ℕ) → i < length listed → (m : Move) → Among d.moves m → applicable m (place listed i).state ≡ true → (dead (progression m (place listed i).state) ≡ true) ⊎ Among (states_of listed) (progression m (place listed i).state)
  goes_on_within i h m among applies =
      let n = place_of_one d.moves m among in
      ⊎_elim inl (λ l. inr (subst (Among (states_of listed)) l.2 (state_among listed l.0 l.1)))
      (s.taken i (omega arith) h n.0 (slice_get_within d.moves n.0 m n.1) m n.1 applies)

  pub listed_are_closed : ClosedUnderMoves d dead (states_of listed)
  listed_are_closed =
      let each = λ (P : Row → Type 0) (holds : (i : ℕ) → i < length listed → P (place listed i).state) (t : Row) (a : Among (states_of listed) t). let p = place_of_state listed t a in subst P p.2 (holds p.0 p.1) in
      record {
        states_of_the_model = each (λ t. state_of_model d t ≡ true) are_states;
        none_meets_the_goal = each (λ t. disagree t d.goal ≡ true) (λ i h. apart_or_contained d d.goal (place listed i).state sealed.goal_values_below_sizes (are_states i h) (s.traced.unmet i h));
        no_move_leads_away = each (λ t. (m : Move) → Among d.moves m → applicable m t ≡ true → (dead (progression m t) ≡ true) ⊎ Among (states_of listed) (progression m t)) goes_on_within;
      }

  -- no listed state has a plan
  pub listed_have_no_plan : Lawful d dead → (ns : List ℕ) (i : ℕ) → i < length listed → Plan d (place listed i).state ns → ⊥
  listed_have_no_plan laws [] i h p = plan_has_a_move d dead room start sealed state laws end listed s i h p
  listed_have_no_plan laws (n ∷ ns) i h p =
      let next = plan_goes_on d dead room start sealed state laws end listed s i h (omega arith) n ns p in
      listed_have_no_plan laws ns next.0 next.1 next.3
