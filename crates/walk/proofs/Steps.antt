-- How a walk over lent places goes on.
use Rattle.std.proofs.Common.{◌≡◌, ℕ, zero, suc, ◌+◌, ◌-◌, ◌<◌, ◌≤◌, Bool, true, false, cond, ◌||◌, List, length, Some, None, Option, nat_lt, sym, refl, ap, ap₂, ◌∙◌, subst, arith, zero-add, add-one}
use Rattle.std.specs.List.{slice_get}
use Rattle.std.proofs.lemmas.List.{length-take-le, length_push}
use Rattle.std.proofs.lemmas.Option.{slice_get_within, get_or_from_slice_get}
use Rattle.std.proofs.lemmas.Bool.{cond_both, ltb-true, lt-ltb, le-ltb, or_parts, false≢true}
use Rattle.model.specs.declared.row.Row.{Row}
use Rattle.model.specs.declared.moves.Move.{Move}
use Rattle.model.specs.Rows.{open_row, contained}
use Rattle.model.specs.Moves.{applicable, progression}
use Rattle.model.specs.Records.{ModelRecord}
use Rattle.first_come.specs.declared.listed.Listed.{Listed}
use Rattle.first_come.specs.declared.listed.Listed.TheVariants.{Already, Added, Full as NoPlace}
use Rattle.first_come.specs.Arrivals.{Kept, arrived, has, has_room, with_next, Answer, listed_told, answer, keep}
use Rattle.lists.proofs.Fronts.{nth_none, length_over}
use Rattle.walk.specs.declared.walked.Walked.{Walked}
use Rattle.walk.specs.declared.course.Course.{Course}
use Rattle.walk.specs.declared.course.Course.TheVariants.{Underway, Found, Full}
use Rattle.walk.specs.Sames.{same_state}
use Rattle.walk.specs.Walks.{Walk, walk_at, unless_ended, onward, came, first, place, on_move, arrive, try_move, try_moves, take_state, take_states}
use Rattle.walk.specs.WorkLists.{filled, room_of, Made}
use Rattle.walk.proofs.Buffers.{filled_self, filled_next, arrived_filled, filled_filled}

-- nothing is listed
made_same : (k : Kept Walked) (course : Course) → k.len ≤ length k.places → Made k k course (walk_at (arrived k) course)
made_same k course fits = record { course = refl; listed = filled_self k fits }

-- an item that is not listed is told to have no place exactly where there is no room
module _ (k : Kept Walked) (v : Walked) (new : has same_state (arrived k) v ≡ false) where
  by_room : (room : Bool) → has_room k ≡ room → answer same_state k v ≡ cond {A = Answer} room (true, Some k.len) (false, None)
  by_room room e = rw (new, e) refl

  pub full_without_room : listed_told NoPlace ≡ answer same_state k v → has_room k ≡ false
  full_without_room told = go (has_room k) refl
    where
      go : (room : Bool) → has_room k ≡ room → has_room k ≡ false
      go true e = absurd (false≢true (ap (λ (a : Answer). a.0) (told ∙ by_room true e)))
      go false e = e

  pub room_if_not_full : (said : Listed) → listed_told said ≡ answer same_state k v → (said ≡ NoPlace → ⊥) → has_room k ≡ true
  room_if_not_full said told not_full = go said refl (has_room k) refl
    where
      answered : (s : Listed) → said ≡ s → has_room k ≡ false → listed_told s ≡ (false, None)
      answered s p e = ap listed_told (sym p) ∙ told ∙ by_room false e

      go : (s : Listed) → said ≡ s → (room : Bool) → has_room k ≡ room → has_room k ≡ true
      go s p true e = e
      go (Already place) p false e = absurd (let none : Some place ≡ None = ap (λ (a : Answer). a.1) (answered (Already place) p e) in cc)
      go (Added place) p false e = absurd (false≢true (sym (ap (λ (a : Answer). a.0) (answered (Added place) p e))))
      go NoPlace p false e = absurd (not_full p)

module _ (d : ModelRecord) (dead : Row → Bool) (k : Kept Walked) (fits : k.len ≤ length k.places) (v : Walked) where
  abbrev arrival : Walk
  arrival = arrive d dead (room_of k) (arrived k) v

  abbrev passed_over : Bool
  passed_over = has same_state (arrived k) v || dead v.state

  pub arrive_at_goal : contained d.goal v.state ≡ true → Made k k (Found v.from v.by) arrival
  unfolding arrive
  arrive_at_goal met = rw met (made_same k (Found v.from v.by) fits)

  module _ (unmet : contained d.goal v.state ≡ false) where
    pub arrive_passed_over : passed_over ≡ true → Made k k Underway arrival
    unfolding arrive
    arrive_passed_over passed = rw (unmet, passed) (made_same k Underway fits)

    module _ (new : passed_over ≡ false) (after : Kept Walked) (kept_so : after ≡ keep same_state k v) where
      pub arrive_full : listed_told NoPlace ≡ answer same_state k v → Made k after Full arrival
      unfolding arrive
      arrive_full told =
          let absent = (or_parts (has same_state (arrived k) v) (dead v.state) new).0 in
          let room = full_without_room k v absent told in
          let same : after ≡ k = kept_so ∙ rw (absent, room) refl in
          rw (unmet, new, length-take-le k.len k.places fits, room, same) (made_same k Full fits)

      pub arrive_added : (said : Listed) → listed_told said ≡ answer same_state k v → (said ≡ NoPlace → ⊥) → Made k after Underway arrival
      unfolding arrive
      arrive_added said told not_full =
          let absent = (or_parts (has same_state (arrived k) v) (dead v.state) new).0 in
          let room = room_if_not_full k v absent said told not_full in
          let same : after ≡ with_next k v = kept_so ∙ rw (absent, room) refl in
          rw (unmet, new, length-take-le k.len k.places fits, room, same) (record { course = refl; listed = filled_next k v (ltb-true k.len (length k.places) room) })

module _ (d : ModelRecord) (dead : Row → Bool) (k : Kept Walked) (fits : k.len ≤ length k.places) (at : ℕ) (state : Row) (number : ℕ) where
  abbrev tried : Walk
  tried = try_move d dead (room_of k) at state number (arrived k)

  -- there is no such move, or it is not applicable
  pub try_none : slice_get d.moves number ≡ None → Made k k Underway tried
  unfolding try_move
  try_none none = rw none (made_same k Underway fits)

  module _ (m : Move) (read : slice_get d.moves number ≡ Some m) where
    pub try_not_applicable : applicable m state ≡ false → Made k k Underway tried
    unfolding try_move
    try_not_applicable idle = rw (read, idle) (made_same k Underway fits)

    pub try_applicable : applicable m state ≡ true → (after : Kept Walked) (course : Course) (v : Walked) → v ≡ came (progression m state) at number → Made k after course (arrive d dead (room_of k) (arrived k) v) → Made k after course tried
    unfolding try_move
    try_applicable able after course v is made = rw (read, able) (subst (λ x. Made k after course (arrive d dead (room_of k) (arrived k) x)) is made)

-- a list grows, within the room
pub record Grows (room : ℕ) (a b : List Walked) : Type 0 where
  pub more : length a ≤ length b
  pub fits : length a ≤ room → length b ≤ room

grows_none : (room : ℕ) (a : List Walked) → Grows room a a
grows_none room a = record { more = omega arith; fits = λ h. h }

grows_on : (room : ℕ) (a b c : List Walked) → Grows room a b → Grows room b c → Grows room a c
grows_on room a b c p q = record { more = omega (arith, p.more, q.more); fits = λ h. q.fits (p.fits h) }

-- steps by rising number, until the walk ends
abbrev pub runs : (ℕ → List Walked → Walk) → ℕ → Walk → Walk
runs step zero w = w
runs step (suc n) w = onward (runs step n w) (step n)

module _ (step : ℕ → List Walked → Walk) where
  -- what each step keeps, all of them keep
  pub runs_keep : (P : Walk → Type 0) → ((n : ℕ) (listed : List Walked) → P (walk_at listed Underway) → P (step n listed)) → (n : ℕ) (w : Walk) → P w → P (runs step n w)
  runs_keep P one zero w p = p
  runs_keep P one (suc n) w p = go (runs step n w).listed (runs step n w).course (runs_keep P one n w p)
    where
      go : (listed : List Walked) (course : Course) → P (walk_at listed course) → P (unless_ended course (walk_at listed course) (step n listed))
      go listed Underway q = one n listed q
      go listed (Found from by) q = q
      go listed Full q = q

  pub grows_runs : (room : ℕ) → ((n : ℕ) (listed : List Walked) → Grows room listed (step n listed).listed) → (n : ℕ) (w : Walk) → Grows room w.listed (runs step n w).listed
  grows_runs room one n w = runs_keep (λ v. Grows room w.listed v.listed) (λ i listed p. grows_on room w.listed listed (step i listed).listed p (one i listed)) n w (grows_none room w.listed)

  runs_next : (n : ℕ) (w : Walk) → (runs step n w).course ≡ Underway → runs step (suc n) w ≡ step n (runs step n w).listed
  runs_next n w still = rw still refl

  -- an ended walk stays as it is
  stays : (w : Walk) (f : List Walked → Walk) → (w.course ≡ Underway → ⊥) → onward w f ≡ w
  stays w f ended = go w.course refl
    where
      go : (course : Course) → w.course ≡ course → unless_ended course w (f w.listed) ≡ w
      go Underway p = absurd (ended p)
      go (Found from by) p = refl
      go Full p = refl

  runs_ended : (k n : ℕ) (w : Walk) → ((runs step n w).course ≡ Underway → ⊥) → runs step (k + n) w ≡ runs step n w
  runs_ended zero n w ended = ap (λ i. runs step i w) (zero-add n)
  runs_ended (suc k) n w ended =
      let e : suc k + n ≡ suc (k + n) = omega arith in
      ap (λ i. runs step i w) e ∙ ap (λ v. onward v (step (k + n))) (runs_ended k n w ended) ∙ stays (runs step n w) (step (k + n)) ended

  -- where the later steps do nothing, the walk stays as it is too
  runs_idle : (k n : ℕ) (w : Walk) → (runs step n w).course ≡ Underway → ((i : ℕ) → n ≤ i → step i (runs step n w).listed ≡ walk_at (runs step n w).listed Underway) → runs step (k + n) w ≡ runs step n w
  runs_idle zero n w still idle = ap (λ i. runs step i w) (zero-add n)
  runs_idle (suc k) n w still idle =
      let e : suc k + n ≡ suc (k + n) = omega arith in
      let v = runs step n w in
      ap (λ i. runs step i w) e ∙ ap (λ u. onward u (step (k + n))) (runs_idle k n w still idle) ∙ goes_on v (step (k + n)) still ∙ idle (k + n) (omega arith) ∙ ap (walk_at v.listed) (sym still)
    where
      goes_on : (v : Walk) (f : List Walked → Walk) → v.course ≡ Underway → onward v f ≡ f v.listed
      goes_on v f still = rw still refl

-- the moves below n are tried by steps
pub moves_run : (d : ModelRecord) (dead : Row → Bool) (room at : ℕ) (state : Row) (n : ℕ) (w : Walk) → try_moves d dead room at state n w ≡ runs (try_move d dead room at state) n w
unfolding try_moves
moves_run d dead room at state zero w = refl
moves_run d dead room at state (suc n) w = ap (λ v. onward v (try_move d dead room at state n)) (moves_run d dead room at state n w)

-- the states at the places below n are taken by steps
pub states_run : (d : ModelRecord) (dead : Row → Bool) (room n : ℕ) (w : Walk) → take_states d dead room n w ≡ runs (take_state d dead room) n w
unfolding take_states
states_run d dead room zero w = refl
states_run d dead room (suc n) w = ap (λ v. onward v (take_state d dead room n)) (states_run d dead room n w)

module _ (d : ModelRecord) (dead : Row → Bool) (room : ℕ) where
  grows_arrive : (listed : List Walked) (v : Walked) → Grows room listed (arrive d dead room listed v).listed
  unfolding arrive
  grows_arrive listed v =
      let P : Walk → Type 0 = λ w. Grows room listed w.listed in
      cond_both (contained d.goal v.state) _ _ P (λ _. grows_none room listed)
      (λ _. cond_both (has same_state listed v || dead v.state) _ _ P (λ _. grows_none room listed)
      (λ _. cond_both (nat_lt (length listed) room) _ _ P
      (λ l. record { more = omega (arith, length_push listed v); fits = λ _. omega (arith, length_push listed v, ltb-true (length listed) room l) })
      (λ _. grows_none room listed)))

  pub grows_try_move : (at : ℕ) (state : Row) (n : ℕ) (listed : List Walked) → Grows room listed (try_move d dead room at state n listed).listed
  unfolding try_move
  grows_try_move at state n listed = go (slice_get d.moves n)
    where
      go : (read : Option Move) → Grows room listed (on_move read (walk_at listed Underway) (λ m. cond (applicable m state) (arrive d dead room listed (came (progression m state) at n)) (walk_at listed Underway))).listed
      go None = grows_none room listed
      go (Some m) = cond_both (applicable m state) _ _ (λ (w : Walk). Grows room listed w.listed) (λ _. grows_arrive listed (came (progression m state) at n)) (λ _. grows_none room listed)

  pub grows_try_moves : (at : ℕ) (state : Row) (n : ℕ) (w : Walk) → Grows room w.listed (try_moves d dead room at state n w).listed
  grows_try_moves at state n w = rw moves_run (grows_runs (try_move d dead room at state) room (grows_try_move at state) n w)

  pub grows_take_state : (at : ℕ) (listed : List Walked) → Grows room listed (take_state d dead room at listed).listed
  unfolding take_state
  grows_take_state at listed =
      cond_both (nat_lt at (length listed)) _ _ (λ (w : Walk). Grows room listed w.listed)
      (λ _. grows_try_moves at (place listed at).state (length d.moves) (walk_at listed Underway))
      (λ _. grows_none room listed)

  pub grows_take_states : (n : ℕ) (w : Walk) → Grows room w.listed (take_states d dead room n w).listed
  grows_take_states n w = rw states_run (grows_runs (take_state d dead room) room grows_take_state n w)

  -- a listed state is taken
  take_listed : (at : ℕ) (listed : List Walked) → at < length listed → take_state d dead room at listed ≡ try_moves d dead room at (place listed at).state (length d.moves) (walk_at listed Underway)
  unfolding take_state
  take_listed at listed h = rw (lt-ltb at (length listed) h) refl

  -- behind the last listed state there is nothing to take
  take_none : (at : ℕ) (listed : List Walked) → length listed ≤ at → take_state d dead room at listed ≡ walk_at listed Underway
  unfolding take_state
  take_none at listed h = rw (le-ltb at (length listed) h) refl

-- a step on the places as they are is one on the places as they were lent
pub made_on : (lent k after : Kept Walked) (course : Course) (listed : List Walked) (f : ℕ → List Walked → Walk) → k ≡ filled lent listed → length listed ≤ room_of lent
    → Grows (room_of lent) listed (f (room_of lent) listed).listed → Made k after course (f (room_of k) (arrived k)) → Made lent after course (f (room_of lent) listed)
made_on lent k after course listed f is fits grows made =
    let w = f (room_of lent) listed in
    let long : room_of k ≡ room_of lent = ap room_of is ∙ length_over listed lent.places fits in
    let front : arrived k ≡ listed = ap arrived is ∙ arrived_filled lent listed in
    let same : f (room_of k) (arrived k) ≡ w = ap₂ f long front in
    record {
      course = made.course ∙ ap (λ v. v.course) same;
      listed = made.listed ∙ ap₂ (λ n v. filled n v.listed) is same ∙ filled_filled lent listed w.listed grows.more;
    }

module _ (lent : Kept Walked) (fits : lent.len ≤ length lent.places) (step : ℕ → ℕ → List Walked → Walk) (grows : (n : ℕ) (listed : List Walked) → Grows (room_of lent) listed (step (room_of lent) n listed).listed) where
  abbrev pub run_to : ℕ → Walk
  run_to n = runs (step (room_of lent)) n (walk_at (arrived lent) Underway)

  pub listed_fits : (n : ℕ) → length (run_to n).listed ≤ room_of lent
  listed_fits n = (grows_runs (step (room_of lent)) (room_of lent) grows n (walk_at (arrived lent) Underway)).fits (omega (arith, length-take-le lent.len lent.places fits))

  pub made_none : Made lent lent Underway (run_to 0)
  made_none = made_same lent Underway fits

  pub made_next : (n : ℕ) (k after : Kept Walked) (course : Course) → Made lent k Underway (run_to n) → Made k after course (step (room_of k) n (arrived k)) → Made lent after course (run_to (n + 1))
  made_next n k after course before made =
      let w = run_to n in
      let one = made_on lent k after course w.listed (λ room. step room n) before.listed (listed_fits n) (grows n w.listed) made in
      let next = runs_next (step (room_of lent)) n (walk_at (arrived lent) Underway) (sym before.course) in
      subst (λ i. Made lent after course (run_to i)) (sym (add-one n)) (subst (Made lent after course) (sym next) one)

  -- an ended walk is the whole walk
  pub made_ended : (n all : ℕ) (after : Kept Walked) (course : Course) → n ≤ all → (course ≡ Underway → ⊥) → Made lent after course (run_to n) → Made lent after course (run_to all)
  made_ended n all after course h ended made =
      let e : (all - n) + n ≡ all = omega arith in
      let same = runs_ended (step (room_of lent)) (all - n) n (walk_at (arrived lent) Underway) (λ still. ended (made.course ∙ still)) in
      subst (Made lent after course) (sym same ∙ ap run_to e) made

  -- so is one whose later steps do nothing
  pub made_idle : (n all : ℕ) (after : Kept Walked) → n ≤ all → Made lent after Underway (run_to n) → ((i : ℕ) → n ≤ i → step (room_of lent) i (run_to n).listed ≡ walk_at (run_to n).listed Underway) → Made lent after Underway (run_to all)
  made_idle n all after h made idle =
      let e : (all - n) + n ≡ all = omega arith in
      let same = runs_idle (step (room_of lent)) (all - n) n (walk_at (arrived lent) Underway) (sym made.course) idle in
      subst (Made lent after Underway) (sym same ∙ ap run_to e) made

module _ (d : ModelRecord) (dead : Row → Bool) (lent : Kept Walked) (fits : lent.len ≤ length lent.places) where
  -- the moves are tried at a state
  module _ (at : ℕ) (state : Row) where
    abbrev moves_tried : ℕ → Walk
    moves_tried n = runs (try_move d dead (room_of lent) at state) n (walk_at (arrived lent) Underway)

    all_tried : (all : ℕ) → all ≡ length d.moves → moves_tried all ≡ try_moves d dead (room_of lent) at state (length d.moves) (walk_at (arrived lent) Underway)
    all_tried all e = ap moves_tried e ∙ sym (moves_run d dead (room_of lent) at state (length d.moves) (walk_at (arrived lent) Underway))

    pub tried_next : (n : ℕ) (k after : Kept Walked) (course : Course) → Made lent k Underway (moves_tried n) → Made k after course (try_move d dead (room_of k) at state n (arrived k)) → Made lent after course (moves_tried (n + 1))
    tried_next = made_next lent fits (λ room. try_move d dead room at state) (grows_try_move d dead (room_of lent) at state)

    pub tried_ended : (n all : ℕ) (after : Kept Walked) (course : Course) → n ≤ all → all ≡ length d.moves → (course ≡ Underway → ⊥) → Made lent after course (moves_tried n) → Made lent after course (try_moves d dead (room_of lent) at state (length d.moves) (walk_at (arrived lent) Underway))
    tried_ended n all after course h e ended made =
        subst (Made lent after course) (all_tried all e) (made_ended lent fits (λ room. try_move d dead room at state) (grows_try_move d dead (room_of lent) at state) n all after course h ended made)

    pub tried_all : (n : ℕ) (after : Kept Walked) → n ≡ length d.moves → Made lent after Underway (moves_tried n) → Made lent after Underway (try_moves d dead (room_of lent) at state (length d.moves) (walk_at (arrived lent) Underway))
    tried_all n after e made = subst (Made lent after Underway) (all_tried n e) made

  -- the listed states are taken
  abbrev states_taken : ℕ → Walk
  states_taken n = runs (take_state d dead (room_of lent)) n (walk_at (arrived lent) Underway)

  all_taken : states_taken (room_of lent) ≡ take_states d dead (room_of lent) (room_of lent) (walk_at (arrived lent) Underway)
  all_taken = sym (states_run d dead (room_of lent) (room_of lent) (walk_at (arrived lent) Underway))

  module _ (at : ℕ) (k : Kept Walked) (before : Made lent k Underway (states_taken at)) where
    here : arrived k ≡ (states_taken at).listed
    here = ap arrived before.listed ∙ arrived_filled lent (states_taken at).listed

    -- a listed state is left
    module _ (v : Walked) (read : slice_get (arrived k) at ≡ Some v) where
      pub taken_within : at < room_of lent
      taken_within = omega (arith, slice_get_within (arrived k) at v read, ap length here, listed_fits lent fits (take_state d dead) (grows_take_state d dead (room_of lent)) at)

      pub taken_next : (after : Kept Walked) (course : Course) → Made k after course (try_moves d dead (room_of k) at v.state (length d.moves) (walk_at (arrived k) Underway)) → Made lent after course (states_taken (at + 1))
      taken_next after course made =
          let is : place (arrived k) at ≡ v = get_or_from_slice_get (arrived k) at v (first open_row) read in
          let step = take_listed d dead (room_of k) at (arrived k) (slice_get_within (arrived k) at v read) ∙ ap (λ (x : Walked). try_moves d dead (room_of k) at x.state (length d.moves) (walk_at (arrived k) Underway)) is in
          made_next lent fits (take_state d dead) (grows_take_state d dead (room_of lent)) at k after course before (subst (Made k after course) (sym step) made)

    -- every listed state was taken
    pub taken_all : at ≤ room_of lent → slice_get (arrived k) at ≡ None → Made lent k Underway (take_states d dead (room_of lent) (room_of lent) (walk_at (arrived lent) Underway))
    taken_all h none =
        let end : length (states_taken at).listed ≤ at = omega (arith, nth_none (arrived k) at none, ap length here) in
        subst (Made lent k Underway) all_taken
        (made_idle lent fits (take_state d dead) (grows_take_state d dead (room_of lent)) at (room_of lent) k h before (λ i l. take_none d dead (room_of lent) i (states_taken at).listed (omega (arith, l, end))))

  pub taken_ended : (n : ℕ) (after : Kept Walked) (course : Course) → n ≤ room_of lent → (course ≡ Underway → ⊥) → Made lent after course (states_taken n) → Made lent after course (take_states d dead (room_of lent) (room_of lent) (walk_at (arrived lent) Underway))
  taken_ended n after course h ended made =
      subst (Made lent after course) all_taken (made_ended lent fits (take_state d dead) (grows_take_state d dead (room_of lent)) n (room_of lent) after course h ended made)
