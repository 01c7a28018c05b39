-- The plan that a walk finds is a shortest one.
use Rattle.std.proofs.Common.{◌≡◌, ℕ, ◌+◌, ◌<◌, ◌≤◌, Bool, true, List, [], ◌∷◌, ◌++◌, length, slice_get, Some, sym, refl, subst, ⊎_elim, arith}
use Rattle.std.proofs.lemmas.Bool.{both_ways, cases_lt}
use Rattle.std.proofs.lemmas.List.{length_push}
use Rattle.std.proofs.lemmas.Option.{slice_get_within}
use Rattle.model.specs.declared.row.Row.{Row}
use Rattle.model.specs.declared.moves.Move.{Move}
use Rattle.model.specs.Rows.{contained}
use Rattle.model.specs.Moves.{applicable, progression}
use Rattle.model.specs.Plans.{Plan}
use Rattle.model.specs.Records.{ModelRecord, Sealed, state_of_model}
use Rattle.model.specs.MoveLaws.{StatesLeadToStates}
use Rattle.model.proofs.PlanStates.{states_lead_to_states}
use Rattle.detector.specs.Laws.{Lawful}
use Rattle.walk.specs.declared.walked.Walked.{Walked}
use Rattle.walk.specs.Walks.{place, way}
use Rattle.walk.proofs.Ways.{rising_way, next_way, listed_state, start_is_first, leads_way, leads_on}
use Rattle.walk.proofs.Sound.{Sound, Meets}
use Rattle.walk.proofs.PlanBytes.{way_first}

-- what an applicable move makes of a state is a state
move_keeps_states : (d : ModelRecord) (s : Row) (n : ℕ) (m : Move) → Sealed d → state_of_model d s ≡ true → slice_get d.moves n ≡ Some m → applicable m s ≡ true → state_of_model d (progression m s) ≡ true
unfolding StatesLeadToStates
move_keeps_states d s n m sealed state named applies = states_lead_to_states d (n ∷ []) s (progression m s) sealed state (m, named, applies, refl)

module _ (d : ModelRecord) (dead : Row → Bool) (room : ℕ) (start : Row) where
  module _ (sealed : Sealed d) (state : state_of_model d start ≡ true) (laws : Lawful d dead) (at : ℕ) (listed : List Walked) (s : Sound d dead room start at listed) where
    -- no listed state contains the goal, so a plan for it has a move
    pub plan_has_a_move : (i : ℕ) → i < length listed → Plan d (place listed i).state [] → ⊥
    plan_has_a_move i h p = both_ways (contained d.goal (place listed i).state) (s.traced.unmet i h) (subst (λ t. contained d.goal t ≡ true) (sym p.1) p.2)

    -- a plan for a state that was taken goes on from a listed state, which came from no later place
    pub plan_goes_on : (i : ℕ) → i < length listed → i < at → (n : ℕ) (ns : List ℕ) → Plan d (place listed i).state (n ∷ ns) → (j : ℕ) × (j < length listed) × ((place listed j).from ≤ i) × Plan d (place listed j).state ns
    plan_goes_on i h before n ns p =
        let moves = p.1 in
        let t = progression moves.0 (place listed i).state in
        let rest : Plan d t ns = (p.0, moves.3, p.2) in
        ⊎_elim
        (λ gone. absurd (laws.dead_states_have_no_plan t (move_keeps_states d (place listed i).state n moves.0 sealed (listed_state d room start listed s.traced sealed state i h) moves.1 moves.2) gone ns rest))
        (λ l. (l.0, l.1, l.3, subst (λ x. Plan d x ns) (sym l.2) rest))
        (s.taken i before h n (slice_get_within d.moves n moves.0 moves.1) moves.0 moves.1 moves.2)

    -- the way to a listed state and a plan for it have more moves together than the way to the state that is being taken
    no_shorter : (ns : List ℕ) (i : ℕ) → at < length listed → i < length listed → length (way i listed i) + length ns ≤ length (way at listed at) → Plan d (place listed i).state ns → ⊥
    no_shorter [] i within h short p = plan_has_a_move i h p
    no_shorter (n ∷ ns) i within h short p =
        ⊎_elim
        (λ (before : i < at).
        let next = plan_goes_on i h before n ns p in
        no_shorter ns next.0 within next.1 (omega (arith, short, next_way d room start listed s.traced i next.0 h next.1 next.2)) next.3)
        (λ (after : at ≤ i). omega (arith, short, rising_way d room start listed s.traced at i at i (omega arith) (omega arith) after h))
        (cases_lt i at)

  module _ (at n : ℕ) (listed : List Walked) (f : Meets d dead room start at n listed) where
    abbrev found : List ℕ
    found = way at listed at ++ n ∷ []

    pub found_is_plan : Plan d start found
    found_is_plan = (
      progression f.move (place listed at).state,
      leads_on d start (place listed at).state (way at listed at) n f.move (leads_way d room start listed f.sound.traced at at (omega arith) f.within) f.named f.applies,
      f.reaches,
    )

    pub found_is_shortest : Sealed d → state_of_model d start ≡ true → Lawful d dead → (others : List ℕ) → Plan d start others → length found ≤ length others
    found_is_shortest sealed state laws others p =
        ⊎_elim
        (λ (fewer : length others < length found).
        absurd (no_shorter sealed state laws at listed f.sound others 0 f.within f.sound.traced.some
        (rw (way_first 0 listed) (omega (arith, fewer, length_push (way at listed at) n)))
        (subst (λ t. Plan d t others) (sym (start_is_first d room start listed f.sound.traced)) p)))
        (λ enough. enough)
        (cases_lt (length others) (length found))
