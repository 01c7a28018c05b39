-- The listed states, and the ways to them.
use Rattle.std.proofs.Common.{◌≡◌, ℕ, zero, suc, ◌+◌, ◌<◌, ◌≤◌, true, false, List, [], ◌∷◌, ◌++◌, length, slice_get, Some, sym, refl, ap, subst, ⊎_elim, arith}
use Rattle.std.proofs.lemmas.Bool.{cases_lt, or_cases, false≢true}
use Rattle.std.proofs.lemmas.List.{get_or_append_left, get_or_push, length_push}
use Rattle.model.specs.declared.row.Row.{Row}
use Rattle.model.specs.declared.moves.Move.{Move}
use Rattle.model.specs.Rows.{open_row, contained}
use Rattle.model.specs.SameRows.{same_row_decides}
use Rattle.model.specs.Moves.{applicable, progression}
use Rattle.model.specs.Plans.{Leads}
use Rattle.model.specs.Records.{ModelRecord, Sealed, state_of_model}
use Rattle.model.specs.MoveLaws.{StatesLeadToStates}
use Rattle.model.proofs.PlanStates.{states_lead_to_states}
use Rattle.first_come.specs.Arrivals.{has}
use Rattle.walk.specs.declared.walked.Walked.{Walked}
use Rattle.walk.specs.Sames.{same_state}
use Rattle.walk.specs.Walks.{first, place, way}
use Rattle.walk.specs.WorkLists.{Rooted}

-- the places of a list with one more
module _ (listed : List Walked) (v : Walked) where
  pub place_old : (i : ℕ) → i < length listed → place (listed ++ v ∷ []) i ≡ place listed i
  place_old i h = get_or_append_left listed (v ∷ []) (first open_row) i h

  pub place_new : place (listed ++ v ∷ []) (length listed) ≡ v
  place_new = get_or_push listed v (first open_row) (length listed) refl

  -- what holds at each place and of the new one holds at each place again
  pub each_place : (P : ℕ → Walked → Type 0) → ((i : ℕ) → i < length listed → P i (place listed i)) → P (length listed) v → (i : ℕ) → i < length (listed ++ v ∷ []) → P i (place (listed ++ v ∷ []) i)
  each_place P old new i h =
      ⊎_elim
      (λ (l : i < length listed). rw (place_old i l) (old i l))
      (λ (l : length listed ≤ i).
      let e : length listed ≡ i = omega (arith, length_push listed v) in
      subst (λ k. P k (place (listed ++ v ∷ []) k)) e (rw place_new new))
      (cases_lt i (length listed))

-- a state that is listed has a place
pub has_place : (listed : List Walked) (v : Walked) → has same_state listed v ≡ true → (j : ℕ) × (j < length listed) × ((place listed j).state ≡ v.state)
has_place [] v h = absurd (false≢true h)
has_place (x ∷ xs) v h =
    ⊎_elim
    (λ (e : same_state x v ≡ true). (0, omega arith, (same_row_decides x.state v.state).0 e))
    (λ (e : has same_state xs v ≡ true). let rest = has_place xs v e in (suc rest.0, omega (arith, rest.1), rest.2))
    (or_cases (same_state x v) (has same_state xs v) h)

-- one move more
pub leads_on : (d : ModelRecord) (s t : Row) (ns : List ℕ) (n : ℕ) (m : Move) → Leads d s ns t → slice_get d.moves n ≡ Some m → applicable m t ≡ true → Leads d s (ns ++ n ∷ []) (progression m t)
leads_on d s t [] n m same named applies = (m, named, subst (λ x. applicable m x ≡ true) (sym same) applies, ap (progression m) same)
leads_on d s t (k ∷ ks) n m l named applies = (l.0, l.1, l.2, leads_on d (progression l.0 s) t ks n m l.3 named applies)

module _ (d : ModelRecord) (room : ℕ) (start : Row) where
  -- v, at the place i, came by an applicable move from the state at an earlier place
  abbrev pub Came : List Walked → ℕ → Walked → Type 0
  Came listed i v =
      (v.from < i) × (m : Move) × (slice_get d.moves v.by ≡ Some m) × (applicable m (place listed v.from).state ≡ true)
      × (v.state ≡ progression m (place listed v.from).state)

  -- what holds of the listed states however far the walk has come
  pub record Traced (listed : List Walked) : Type 0 where
    pub few : length listed ≤ room
    pub some : 0 < length listed
    pub from_the_start : place listed 0 ≡ first start
    pub origin : (i : ℕ) → i < length listed → 0 < i → Came listed i (place listed i)
    -- what is listed later came from no earlier place
    pub rising : (j : ℕ) → j < length listed → (i : ℕ) → i ≤ j → (place listed i).from ≤ (place listed j).from
    pub unmet : (i : ℕ) → i < length listed → contained d.goal (place listed i).state ≡ false

  module _ (listed : List Walked) (t : Traced listed) where
    pub traced_rooted : Rooted listed
    traced_rooted i h p = (t.origin i h p).0

    pub start_is_first : (place listed 0).state ≡ start
    start_is_first = ap (λ v. v.state) t.from_the_start

    -- the way to a listed state leads to it
    pub leads_way : (n i : ℕ) → i ≤ n → i < length listed → Leads d start (way n listed i) (place listed i).state
    unfolding way
    leads_way zero i l h = let e : i ≡ 0 = omega arith in rw e (sym start_is_first)
    leads_way (suc n) zero l h = sym start_is_first
    leads_way (suc n) (suc i) l h =
        let v = place listed (suc i) in
        let c = t.origin (suc i) h (omega arith) in
        subst (Leads d start (way n listed v.from ++ v.by ∷ [])) (sym c.4)
        (leads_on d start (place listed v.from).state (way n listed v.from) v.by c.1 (leads_way n v.from (omega (arith, c.0)) (omega (arith, c.0))) c.2 c.3)

    -- so in a sealed model the listed rows are states, where the first is
    pub listed_state : Sealed d → state_of_model d start ≡ true → (i : ℕ) → i < length listed → state_of_model d (place listed i).state ≡ true
    unfolding StatesLeadToStates
    listed_state sealed state i h = states_lead_to_states d (way i listed i) start (place listed i).state sealed state (leads_way i i (omega arith) h)

    -- a state that is listed later is not nearer to the start
    pub rising_way : (n m i j : ℕ) → i ≤ n → j ≤ m → i ≤ j → j < length listed → length (way n listed i) ≤ length (way m listed j)
    unfolding way
    rising_way zero m i j a b l h = omega arith
    rising_way (suc n) m zero j a b l h = omega arith
    rising_way (suc n) zero (suc i) j a b l h = absurd (omega arith)
    rising_way (suc n) (suc m) (suc i) zero a b l h = absurd (omega arith)
    rising_way (suc n) (suc m) (suc i) (suc j) a b l h =
        let p = place listed (suc i) in
        let q = place listed (suc j) in
        let i_rooted = traced_rooted (suc i) (omega arith) (omega arith) in
        let j_rooted = traced_rooted (suc j) h (omega arith) in
        let up = rising_way n m p.from q.from (omega (arith, i_rooted)) (omega (arith, j_rooted)) (t.rising (suc j) h (suc i) l) (omega (arith, j_rooted)) in
        omega (arith, up, length_push (way n listed p.from) p.by, length_push (way m listed q.from) q.by)

    -- what came from a place no later than i is at most one move further
    pub next_way : (i j : ℕ) → i < length listed → j < length listed → (place listed j).from ≤ i → length (way j listed j) ≤ length (way i listed i) + 1
    unfolding way
    next_way i zero h k f = omega arith
    next_way i (suc j) h k f =
        let q = place listed (suc j) in
        let rooted = traced_rooted (suc j) k (omega arith) in
        let up = rising_way j i q.from i (omega (arith, rooted)) (omega arith) f h in
        omega (arith, up, length_push (way j listed q.from) q.by)
