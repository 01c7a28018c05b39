-- What a walk keeps true, step by step.
use Rattle.std.proofs.Common.{◌≡◌, ℕ, zero, suc, ◌<◌, ◌≤◌, Bool, true, false, cond, ◌⊎◌, ◌||◌, List, [], ◌∷◌, ◌++◌, length, nat_lt, slice_get, Option, Some, None, sym, refl, ap, subst, ◌∙◌, inl, inr, ⊎_elim, arith, add-one}
use Rattle.std.proofs.lemmas.Bool.{cond_both, ltb-true, ltb-false, or_cases, both_ways}
use Rattle.std.proofs.lemmas.List.{length_push}
use borrow.Author.Count.{below_more}
use Rattle.model.specs.declared.row.Row.{Row}
use Rattle.model.specs.declared.moves.Move.{Move}
use Rattle.model.specs.Rows.{contained}
use Rattle.model.specs.Moves.{applicable, progression}
use Rattle.model.specs.Records.{ModelRecord}
use Rattle.first_come.specs.Arrivals.{has}
use Rattle.walk.specs.declared.walked.Walked.{Walked}
use Rattle.walk.specs.declared.course.Course.{Course}
use Rattle.walk.specs.declared.course.Course.TheVariants.{Underway, Found, Full}
use Rattle.walk.specs.Sames.{same_state}
use Rattle.walk.specs.Walks.{came, first, place, Walk, walk_at, onward, on_move, arrive, try_move, try_moves, take_state, take_states}
use Rattle.walk.proofs.Ways.{place_old, place_new, each_place, has_place, Came, Traced}

module _ (d : ModelRecord) (dead : Row → Bool) (room : ℕ) (start : Row) where
  -- the row t, to which a move led from the place i, is dead or listed, and then it came from no later place
  abbrev pub Led : List Walked → ℕ → Row → Type 0
  Led listed i t = (dead t ≡ true) ⊎ ((j : ℕ) × (j < length listed) × ((place listed j).state ≡ t) × ((place listed j).from ≤ i))

  -- what the move n led to from the state at the place i, if it is applicable
  abbrev pub LedBy : Row → List Walked → ℕ → ℕ → Type 0
  LedBy state listed i n = (m : Move) → slice_get d.moves n ≡ Some m → applicable m state ≡ true → Led listed i (progression m state)

  -- the moves below n were tried from the state at the place i
  abbrev pub Tried : Row → List Walked → ℕ → ℕ → Type 0
  Tried state listed i n = (k : ℕ) → k < n → LedBy state listed i k

  -- the state at the place i was taken
  abbrev pub Taken : List Walked → ℕ → Type 0
  Taken listed i = i < length listed → Tried (place listed i).state listed i (length d.moves)

  -- the states at the places before `at` were taken
  pub record Sound (at : ℕ) (listed : List Walked) : Type 0 where
    pub traced : Traced d room start listed
    pub early : (i : ℕ) → i < length listed → (place listed i).from ≤ at
    pub taken : (i : ℕ) → i < at → Taken listed i

  -- the state at the place `at` is being taken: the moves below n were tried
  pub record Taking (at : ℕ) (state : Row) (n : ℕ) (listed : List Walked) : Type 0 where
    pub sound : Sound at listed
    pub within : at < length listed
    pub same : (place listed at).state ≡ state
    pub tried : Tried state listed at n

  -- the move n leads from the state at the place `at`, which is being taken, to the goal
  pub record Meets (at n : ℕ) (listed : List Walked) : Type 0 where
    pub sound : Sound at listed
    pub within : at < length listed
    pub move : Move
    pub named : slice_get d.moves n ≡ Some move
    pub applies : applicable move (place listed at).state ≡ true
    pub reaches : contained d.goal (progression move (place listed at).state) ≡ true

  -- every place is taken
  pub record Filled (listed : List Walked) : Type 0 where
    pub traced : Traced d room start listed
    pub whole_room : length listed ≡ room

  -- how a walk stands; while it goes on, P holds of what is listed
  abbrev pub StandsAt : (List Walked → Type 0) → List Walked → Course → Type 0
  StandsAt P listed Underway = P listed
  StandsAt P listed (Found at n) = Meets at n listed
  StandsAt P listed Full = Filled listed

  abbrev pub Stands : (List Walked → Type 0) → Walk → Type 0
  Stands P w = StandsAt P w.listed w.course

  module _ (P Q : List Walked → Type 0) where
    stands_on : ((listed : List Walked) → P listed → Q listed) → (listed : List Walked) (course : Course) → StandsAt P listed course → StandsAt Q listed course
    stands_on on listed Underway h = on listed h
    stands_on on listed (Found at n) h = h
    stands_on on listed Full h = h

    stands_onward : (step : List Walked → Walk) → ((listed : List Walked) → P listed → Stands Q (step listed)) → (listed : List Walked) (course : Course) → StandsAt P listed course → Stands Q (onward (walk_at listed course) step)
    stands_onward step on listed Underway h = on listed h
    stands_onward step on listed (Found at n) h = h
    stands_onward step on listed Full h = h

  -- one move more was tried
  tried_more : (state : Row) (listed : List Walked) (i n : ℕ) → Tried state listed i n → LedBy state listed i n → Tried state listed i (suc n)
  tried_more state listed i n tried last = rw (← add-one n) (below_more (LedBy state listed i) n tried last)

  -- what a move led to is there also with one state more
  led_push : (listed : List Walked) (v : Walked) (i : ℕ) (t : Row) → Led listed i t → Led (listed ++ v ∷ []) i t
  led_push listed v i t (inl e) = inl e
  led_push listed v i t (inr l) =
      let old = place_old listed v l.0 l.1 in
      inr (l.0, omega (arith, length_push listed v, l.1), ap (λ x. x.state) old ∙ l.2, rw old l.3)

  -- the next place
  sound_next : (at : ℕ) (listed : List Walked) → Sound at listed → Taken listed at → Sound (suc at) listed
  sound_next at listed s last = record {
    traced = s.traced;
    early = λ i h. omega (arith, s.early i h);
    taken = rw (← add-one at) (below_more (Taken listed) at s.taken last);
  }

  module _ (at : ℕ) (state : Row) (n : ℕ) (listed : List Walked) (t : Taking at state n listed) where
    here : Traced d room start listed
    here = t.sound.traced

    -- the move n leads to nothing new
    passed_over : LedBy state listed at n → Taking at state (suc n) listed
    passed_over led = record { sound = t.sound; within = t.within; same = t.same; tried = tried_more state listed at n t.tried led }

    module _ (m : Move) (named : slice_get d.moves n ≡ Some m) where
      -- only m has the number n
      led_by : (l : List Walked) → (applicable m state ≡ true → Led l at (progression m state)) → LedBy state l at n
      led_by l led o named_too = let same : m ≡ o = cc in subst (λ x. applicable x state ≡ true → Led l at (progression x state)) same led

      module _ (applies : applicable m state ≡ true) where
        applies_there : applicable m (place listed at).state ≡ true
        applies_there = rw t.same applies

        met : contained d.goal (progression m state) ≡ true → Meets at n listed
        met reaches = record { sound = t.sound; within = t.within; move = m; named = named; applies = applies_there; reaches = rw t.same reaches }

        known : (has same_state listed (came (progression m state) at n) || dead (progression m state)) ≡ true → Led listed at (progression m state)
        known h =
            ⊎_elim
            (λ held. let l = has_place listed (came (progression m state) at n) held in inr (l.0, l.1, l.2, t.sound.early l.0 l.1))
            inl
            (or_cases (has same_state listed (came (progression m state) at n)) (dead (progression m state)) h)

        module _ (left : length listed < room) (unmet : contained d.goal (progression m state) ≡ false) where
          abbrev new : Walked
          new = came (progression m state) at n

          abbrev longer : List Walked
          longer = listed ++ new ∷ []

          parent : (place longer at).state ≡ state
          parent = ap (λ v. v.state) (place_old listed new at t.within) ∙ t.same

          early_more : (i : ℕ) → i < length longer → (place longer i).from ≤ at
          early_more = each_place listed new (λ i v. v.from ≤ at) t.sound.early (omega arith)

          traced_more : Traced d room start longer
          traced_more = record {
            few = omega (arith, length_push listed new);
            some = omega (arith, length_push listed new);
            from_the_start = place_old listed new 0 here.some ∙ here.from_the_start;
            origin = each_place listed new (λ i v. 0 < i → Came d room start longer i v)
                (λ i h p. let old = here.origin i h p in rw (place_old listed new (place listed i).from (omega (arith, old.0))) old)
                (λ p. (t.within, m, named, rw parent applies, ap (progression m) (sym parent)));
            rising = each_place listed new (λ j v. (i : ℕ) → i ≤ j → (place longer i).from ≤ v.from)
                (λ j h i l. rw (place_old listed new i (omega arith)) (here.rising j h i l))
                (λ i l. early_more i (omega (arith, l, length_push listed new)));
            unmet = each_place listed new (λ i v. contained d.goal v.state ≡ false) here.unmet unmet;
          }

          tried_longer : (s : Row) (i k : ℕ) → Tried s listed i k → Tried s longer i k
          tried_longer s i k tried j l o named_too can = led_push listed new i (progression o s) (tried j l o named_too can)

          taken_longer : (i : ℕ) → i < at → Taken longer i
          taken_longer i l h = rw (place_old listed new i (omega (arith, t.within))) (tried_longer (place listed i).state i (length d.moves) (t.sound.taken i l (omega (arith, t.within))))

          pushed : Taking at state (suc n) longer
          pushed =
              let more = length_push listed new in
              record {
                sound = record { traced = traced_more; early = early_more; taken = taken_longer };
                within = omega (arith, t.within);
                same = parent;
                tried = tried_more state longer at n (tried_longer state at n t.tried)
                    (led_by longer (λ _. inr (length listed, omega arith, ap (λ v. v.state) (place_new listed new), early_more (length listed) (omega arith))));
              }

        arrive_stands : Stands (Taking at state (suc n)) (arrive d dead room listed (came (progression m state) at n))
        unfolding arrive
        arrive_stands =
            let v = came (progression m state) at n in
            let P = Stands (Taking at state (suc n)) in
            cond_both (contained d.goal v.state) _ _ P met
            (λ unmet. cond_both (has same_state listed v || dead v.state) _ _ P (λ h. passed_over (led_by listed (λ _. known h)))
            (λ _. cond_both (nat_lt (length listed) room) _ _ P (λ left. pushed (ltb-true (length listed) room left) unmet)
            (λ none. record { traced = here; whole_room = omega (arith, here.few, ltb-false (length listed) room none) })))

    move_stands : (o : Option Move) → slice_get d.moves n ≡ o → Stands (Taking at state (suc n)) (on_move o (walk_at listed Underway) (λ m. cond (applicable m state) (arrive d dead room listed (came (progression m state) at n)) (walk_at listed Underway)))
    move_stands None none = passed_over (λ m named. cc)
    move_stands (Some m) named =
        cond_both (applicable m state) _ _ (Stands (Taking at state (suc n))) (arrive_stands m named)
        (λ fails. passed_over (led_by m named listed (λ applies. absurd (both_ways (applicable m state) fails applies))))

    try_stands : Stands (Taking at state (suc n)) (try_move d dead room at state n listed)
    unfolding try_move
    try_stands = move_stands (slice_get d.moves n) refl

  moves_stand : (at : ℕ) (state : Row) (n : ℕ) (w : Walk) → Stands (Taking at state 0) w → Stands (Taking at state n) (try_moves d dead room at state n w)
  unfolding try_moves
  moves_stand at state zero w h = h
  moves_stand at state (suc n) w h =
      let before = try_moves d dead room at state n w in
      stands_onward (Taking at state n) (Taking at state (suc n)) (try_move d dead room at state n) (try_stands at state n) before.listed before.course (moves_stand at state n w h)

  -- a state is taken with every move
  taken_whole : (at : ℕ) (state : Row) (listed : List Walked) → Taking at state (length d.moves) listed → Sound (suc at) listed
  taken_whole at state listed t = sound_next at listed t.sound (λ _. rw t.same t.tried)

  state_stands : (at : ℕ) (listed : List Walked) → Sound at listed → Stands (Sound (suc at)) (take_state d dead room at listed)
  unfolding take_state
  state_stands at listed s =
      let state = (place listed at).state in
      let w = try_moves d dead room at state (length d.moves) (walk_at listed Underway) in
      cond_both (nat_lt at (length listed)) w (walk_at listed Underway) (Stands (Sound (suc at)))
      (λ within. stands_on (Taking at state (length d.moves)) (Sound (suc at)) (taken_whole at state) w.listed w.course
      (moves_stand at state (length d.moves) (walk_at listed Underway) (record { sound = s; within = ltb-true at (length listed) within; same = refl; tried = λ k l. absurd (omega arith) })))
      (λ past. sound_next at listed s (λ within. absurd (omega (arith, ltb-false at (length listed) past))))

  -- a walk keeps what it began with
  pub states_stand : (n : ℕ) (w : Walk) → Stands (Sound 0) w → Stands (Sound n) (take_states d dead room n w)
  unfolding take_states
  states_stand zero w h = h
  states_stand (suc n) w h =
      let before = take_states d dead room n w in
      stands_onward (Sound n) (Sound (suc n)) (take_state d dead room n) (state_stands n) before.listed before.course (states_stand n w h)

  -- a walk from a state that does not contain the goal
  pub sound_first : 0 < room → contained d.goal start ≡ false → Sound 0 (first start ∷ [])
  sound_first left unmet = record {
    traced = record {
      few = left;
      some = omega arith;
      from_the_start = refl;
      origin = λ i l p. absurd (omega arith);
      rising = λ j l i k. let a : i ≡ 0 = omega arith in let b : j ≡ 0 = omega arith in rw (a, b) (omega arith);
      unmet = λ i l. let a : i ≡ 0 = omega arith in rw a unmet;
    };
    early = λ i l. let a : i ≡ 0 = omega arith in rw a (omega arith);
    taken = λ i l. absurd (omega arith);
  }
