-- What a walk from a state of a sealed model comes to.
use Rattle.std.proofs.Common.{◌≡◌, ℕ, ◌<◌, ◌≤◌, Bool, true, false, List, [], ◌∷◌, length, nat_lt, sym, refl, inl, ap, subst, arith}
use Rattle.std.proofs.lemmas.Bool.{cond_both, ltb-true, ltb-false}
use Rattle.model.specs.declared.row.Row.{Row}
use Rattle.model.specs.Rows.{contained}
use Rattle.lists.specs.Members.{Among}
use Rattle.model.specs.Plans.{Plan}
use Rattle.model.specs.Records.{ModelRecord, Sealed, state_of_model}
use Rattle.walk.specs.declared.walked.Walked.{Walked}
use Rattle.walk.specs.declared.course.Course.{Course}
use Rattle.walk.specs.declared.course.Course.TheVariants.{Underway, Found, Full}
use Rattle.walk.specs.Walks.{first, Walk, walk_at, take_states, WholeWalk, whole, ended, planned, exhausted, no_place, walk_from}
use Rattle.walk.specs.Answers.{states_of}
use Rattle.walk.specs.Laws.{WalkTells, EveryWalkTells}
use Rattle.walk.specs.WorkLists.{Rooted}
use Rattle.walk.proofs.Ways.{Traced, traced_rooted, start_is_first}
use Rattle.walk.proofs.Sound.{Sound, Meets, StandsAt, states_stand, sound_first}
use Rattle.walk.proofs.Shortest.{found_is_plan, found_is_shortest}
use Rattle.walk.proofs.Closed.{listed_are_closed, listed_have_no_plan}

module _ (d : ModelRecord) (dead : Row → Bool) (room : ℕ) (start : Row) where
  -- how a walk stands when the states at the places below n were taken, or it has ended
  abbrev Standing : ℕ → List Walked → Course → Type 0
  Standing n = StandsAt d dead room start (Sound d dead room start n)

  rooted_at : (n : ℕ) (listed : List Walked) (course : Course) → Standing n listed course → Rooted listed
  rooted_at n listed Underway s = traced_rooted d room start listed s.traced
  rooted_at n listed (Found at k) f = traced_rooted d room start listed f.sound.traced
  rooted_at n listed Full f = traced_rooted d room start listed f.traced

  within_at : (n : ℕ) (listed : List Walked) (course : Course) → Standing n listed course → (from by : ℕ) → course ≡ Found from by → from < length listed
  within_at n listed Underway s from by e = cc
  within_at n listed (Found at k) f from by e = let same : at ≡ from = cc in omega (arith, f.within, same)
  within_at n listed Full f from by e = cc

  traced_at : (n : ℕ) (listed : List Walked) (course : Course) → Standing n listed course → Traced d room start listed
  traced_at n listed Underway s = s.traced
  traced_at n listed (Found at k) f = f.sound.traced
  traced_at n listed Full f = f.traced

  first_is_among : (listed : List Walked) → Traced d room start listed → Among (states_of listed) start
  first_is_among [] t = absurd (none t.some)
    where
      none : 0 < 0 → ⊥
      none h = omega (arith, h)
  first_is_among (v ∷ vs) t = inl (start_is_first d room start (v ∷ vs) t)

  module _ (sealed : Sealed d) (state : state_of_model d start ≡ true) where
    tells_without_plan : (listed : List Walked) → Sound d dead room start room listed → WalkTells d dead room start (ended (walk_at listed Underway))
    tells_without_plan listed s = record {
      plan_found = λ ns e. cc;
      plan_is_shortest = λ laws ns e. cc;
      closed_without_plan = λ _. listed_are_closed d dead room start sealed state room listed s s.traced.few;
      no_plan_left = λ laws _ ns p.
          listed_have_no_plan d dead room start sealed state room listed s s.traced.few laws ns 0 s.traced.some
          (subst (λ t. Plan d t ns) (sym (start_is_first d room start listed s.traced)) p);
      every_place_taken = λ e. cc;
    }

    tells_of_a_plan : (listed : List Walked) (at n : ℕ) → Meets d dead room start at n listed → WalkTells d dead room start (ended (walk_at listed (Found at n)))
    tells_of_a_plan listed at n f = record {
      plan_found = λ ns e. subst (Plan d start) (cc) (found_is_plan d dead room start at n listed f);
      plan_is_shortest = λ laws ns e. subst (λ ms. (others : List ℕ) → Plan d start others → length ms ≤ length others) (cc) (found_is_shortest d dead room start at n listed f sealed state laws);
      closed_without_plan = λ e. cc;
      no_plan_left = λ laws e. cc;
      every_place_taken = λ e. cc;
    }

    tells_at_the_goal : (listed : List Walked) → contained d.goal start ≡ true → WalkTells d dead room start (whole listed (planned []))
    tells_at_the_goal listed met = record {
      plan_found = λ ns e. let none : [] ≡ ns = cc in subst (Plan d start) none (start, refl, met);
      plan_is_shortest = λ laws ns e others p. let none : [] ≡ ns = cc in omega (arith, ap length none);
      closed_without_plan = λ e. cc;
      no_plan_left = λ laws e. cc;
      every_place_taken = λ e. cc;
    }

    tells_of_no_place : (listed : List Walked) → length listed ≡ room → WalkTells d dead room start (whole listed no_place)
    tells_of_no_place listed full = record {
      plan_found = λ ns e. cc;
      plan_is_shortest = λ laws ns e. cc;
      closed_without_plan = λ e. cc;
      no_plan_left = λ laws e. cc;
      every_place_taken = λ _. full;
    }

    tells_in_the_end : (listed : List Walked) (course : Course) → Standing room listed course → WalkTells d dead room start (ended (walk_at listed course))
    tells_in_the_end listed Underway s = tells_without_plan listed s
    tells_in_the_end listed (Found at n) f = tells_of_a_plan listed at n f
    tells_in_the_end listed Full f = tells_of_no_place listed f.whole_room

  -- the walk over the places below n, from a start that does not contain the goal
  module _ (left : 0 < room) (unmet : contained d.goal start ≡ false) (n : ℕ) where
    abbrev after : Walk
    after = take_states d dead room n (walk_at (first start ∷ []) Underway)

    walk_stands : Standing n after.listed after.course
    walk_stands = states_stand d dead room start n (walk_at (first start ∷ []) Underway) (sound_first d dead room start left unmet)

    pub walk_is_rooted : Rooted after.listed
    walk_is_rooted = rooted_at n after.listed after.course walk_stands

    pub found_within : (from by : ℕ) → after.course ≡ Found from by → from < length after.listed
    found_within = within_at n after.listed after.course walk_stands

  pub walk_tells : Sealed d → state_of_model d start ≡ true → WalkTells d dead room start (walk_from d dead room start)
  unfolding walk_from
  walk_tells sealed state =
      cond_both (nat_lt 0 room) _ _ (WalkTells d dead room start)
      (λ left. cond_both (contained d.goal start) _ _ (WalkTells d dead room start) (tells_at_the_goal sealed state (first start ∷ []))
      (λ unmet. let some = ltb-true 0 room left in tells_in_the_end sealed state (after some unmet room).listed (after some unmet room).course (walk_stands some unmet room)))
      (λ none. tells_of_no_place sealed state [] (omega (arith, ltb-false 0 room none)))

  -- in every walk each state but the first came from an earlier place
  pub every_walk_is_rooted : Rooted (walk_from d dead room start).listed
  unfolding walk_from
  every_walk_is_rooted =
      let P = λ (w : WholeWalk). Rooted w.listed in
      cond_both (nat_lt 0 room) _ _ P
      (λ left. cond_both (contained d.goal start) _ _ P (λ _ i h p. absurd (omega arith)) (λ unmet. walk_is_rooted (ltb-true 0 room left) unmet room))
      (λ none i h p. absurd (omega arith))

  -- it lists no more states than it has places
  pub every_walk_has_room : length (walk_from d dead room start).listed ≤ room
  unfolding walk_from
  every_walk_has_room =
      let P = λ (w : WholeWalk). length w.listed ≤ room in
      cond_both (nat_lt 0 room) _ _ P
      (λ left. cond_both (contained d.goal start) _ _ P (λ _. ltb-true 0 room left) (λ unmet. (traced_at room _ _ (walk_stands (ltb-true 0 room left) unmet room)).few))
      (λ none. omega arith)

  -- a walk that has taken every listed state has listed the one from which it began
  pub exhausted_walk_lists_its_start : (walk_from d dead room start).outcome ≡ exhausted → Among (states_of (walk_from d dead room start).listed) start
  unfolding walk_from
  exhausted_walk_lists_its_start =
      let P = λ (w : WholeWalk). w.outcome ≡ exhausted → Among (states_of w.listed) start in
      cond_both (nat_lt 0 room) _ _ P
      (λ left. cond_both (contained d.goal start) _ _ P (λ _ e. cc) (λ unmet _. first_is_among (after (ltb-true 0 room left) unmet room).listed (traced_at room _ _ (walk_stands (ltb-true 0 room left) unmet room))))
      (λ none e. cc)

pub every_walk_tells : EveryWalkTells
unfolding EveryWalkTells
every_walk_tells = walk_tells
