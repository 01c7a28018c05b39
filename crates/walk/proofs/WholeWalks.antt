-- A whole walk over lent places, by how it ends.
use Rattle.std.proofs.Common.{◌≡◌, ℕ, ◌<◌, ◌≤◌, Bool, true, false, List, [], ◌∷◌, ◌++◌, length, take, drop, Ok, Err, Result, nat_lt, sym, refl, ap, ◌∙◌, subst, arith}
use Rattle.std.proofs.lemmas.List.{length-take}
use Rattle.std.proofs.lemmas.Bool.{ltb-true, le-leb}
use Rattle.refusal.specs.declared.Refusal.{Refusal}
use Rattle.refusal.specs.declared.Refusal.TheVariants.{WorkListFull}
use Rattle.model.specs.declared.row.Row.{Row}
use Rattle.model.specs.Rows.{contained}
use Rattle.model.specs.Records.{ModelRecord}
use Rattle.first_come.specs.declared.listed.Listed.{Listed}
use Rattle.first_come.specs.declared.listed.Listed.TheVariants.{Full as NoPlace}
use Rattle.first_come.specs.Arrivals.{Kept, arrived, has, has_room, with_next, listed_told, answer, keep}
use Rattle.walk.specs.declared.walked.Walked.{Walked}
use Rattle.walk.specs.declared.course.Course.{Course}
use Rattle.walk.specs.declared.course.Course.TheVariants.{Underway, Found, Full}
use Rattle.walk.specs.declared.ended.Ended.{Ended}
use Rattle.walk.specs.declared.ended.Ended.TheVariants.{Plan}
use Rattle.walk.specs.Sames.{same_state}
use Rattle.walk.specs.Walks.{Walk, walk_at, first, take_states, planned, no_place, outcome_of, WholeWalk, whole, ended, walk_from}
use Rattle.walk.specs.Answers.{places_used, ended_told, outcome_answer, outcome_plan, walk_answer, work_list_after, plan_after}
use Rattle.walk.specs.WorkLists.{filled, room_of, Made, Rooted, FoundFromListed}
use Rattle.walk.proofs.Buffers.{filled_next, arrived_filled}
use Rattle.lists.proofs.Fronts.{over_front}
use Rattle.walk.proofs.Steps.{made_on, grows_take_states, full_without_room, room_if_not_full}
use Rattle.walk.proofs.WalkLaws.{walk_is_rooted, found_within, every_walk_has_room}

-- what a call answered, and what it left in the places and in the plan's buffer, are those of the walk w
pub record Leaves (k after : Kept Walked) (buffer buffer_after : List ℕ) (said : Result Ended Refusal) (w : WholeWalk) : Type 0 where
  pub answer : ended_told said ≡ walk_answer (length buffer) w
  pub listed : after.places ≡ work_list_after k.places w
  pub plan : buffer_after ≡ plan_after buffer w

module _ (d : ModelRecord) (dead : Row → Bool) (room : ℕ) (start : Row) where
  abbrev begun : Walk
  begun = walk_at (first start ∷ []) Underway

  walk_without_room : nat_lt 0 room ≡ false → walk_from d dead room start ≡ whole [] no_place
  unfolding walk_from
  walk_without_room none = rw none refl

  module _ (some : nat_lt 0 room ≡ true) where
    walk_at_goal : contained d.goal start ≡ true → walk_from d dead room start ≡ whole (first start ∷ []) (planned [])
    unfolding walk_from
    walk_at_goal met = rw (some, met) refl

    walk_on : contained d.goal start ≡ false → walk_from d dead room start ≡ ended (take_states d dead room room begun)
    unfolding walk_from
    walk_on unmet = rw (some, unmet) refl

found_from : (listed : List Walked) (course : Course) → ((from by : ℕ) → course ≡ Found from by → from < length listed) → FoundFromListed listed course
found_from listed Underway h = tt
found_from listed (Found from by) h = h from by refl
found_from listed Full h = tt

module _ (d : ModelRecord) (dead : Row → Bool) (k : Kept Walked) (empty : k.len ≡ 0) (start : Row) (plan : List ℕ) where
  abbrev the_walk : WholeWalk
  the_walk = walk_from d dead (room_of k) start

  new : has same_state (arrived k) (first start) ≡ false
  new = ap (λ n. has same_state (take n k.places) (first start)) empty

  some_room : (b : Bool) → has_room k ≡ b → nat_lt 0 (room_of k) ≡ b
  some_room b e = ap (λ n. nat_lt n (room_of k)) (sym empty) ∙ e

  -- no place for the state from which the walk begins
  pub leaves_full : (after : Kept Walked) → listed_told NoPlace ≡ answer same_state k (first start) → after ≡ keep same_state k (first start) → Leaves k after plan plan (Err WorkListFull) the_walk
  leaves_full after told kept_so =
      let none = full_without_room k (first start) new told in
      let same : after ≡ k = kept_so ∙ rw (new, none) refl in
      subst (Leaves k after plan plan (Err WorkListFull)) (sym (walk_without_room d dead (room_of k) start (some_room false none)))
      (record { answer = refl; listed = ap (λ n. n.places) same; plan = refl })

  -- there is a place for it
  module _ (said : Listed) (told : listed_told said ≡ answer same_state k (first start)) (not_full : said ≡ NoPlace → ⊥) (begin : Kept Walked) (kept_so : begin ≡ keep same_state k (first start)) where
    room : has_room k ≡ true
    room = room_if_not_full k (first start) new said told not_full

    some_place : 0 < room_of k
    some_place = ltb-true 0 (room_of k) (some_room true room)

    begin_is : begin ≡ filled k (first start ∷ [])
    begin_is =
        let same : begin ≡ with_next k (first start) = kept_so ∙ rw (new, room) refl in
        same ∙ filled_next k (first start) (ltb-true k.len (length k.places) room) ∙ ap (λ n. filled k (take n k.places ++ first start ∷ [])) empty

    pub leaves_at_goal : contained d.goal start ≡ true → Leaves k begin plan plan (Ok (Plan 1 0)) the_walk
    leaves_at_goal met =
        let fits = le-leb 0 (length plan) (omega arith) in
        subst (Leaves k begin plan plan (Ok (Plan 1 0))) (sym (walk_at_goal d dead (room_of k) start (some_room true room) met))
        (record { answer = rw fits refl; listed = ap (λ n. n.places) begin_is; plan = rw fits refl })

    module _ (unmet : contained d.goal start ≡ false) (after : Kept Walked) (course : Course) (made : Made begin after course (take_states d dead (room_of begin) (room_of begin) (walk_at (arrived begin) Underway))) where
      all : Walk
      all = take_states d dead (room_of k) (room_of k) (walk_at (first start ∷ []) Underway)

      all_made : Made k after course all
      unfolding all
      all_made =
          made_on k begin after course (first start ∷ []) (λ n l. take_states d dead n n (walk_at l Underway)) begin_is some_place (grows_take_states d dead (room_of k) (room_of k) (walk_at (first start ∷ []) Underway)) made

      walk_is : the_walk ≡ whole all.listed (outcome_of all.listed course)
      unfolding all
      walk_is = walk_on d dead (room_of k) start (some_room true room) unmet ∙ ap (λ c. whole all.listed (outcome_of all.listed c)) (sym all_made.course)

      module _ (listed : List Walked) (read : listed ≡ arrived after) where
        same : listed ≡ all.listed
        same = read ∙ ap arrived all_made.listed ∙ arrived_filled k all.listed

        pub leaves_rooted : Rooted listed
        unfolding all
        leaves_rooted = subst Rooted (sym same) (walk_is_rooted d dead (room_of k) start some_place unmet (room_of k))

        pub leaves_found : FoundFromListed listed course
        unfolding all
        leaves_found =
            found_from listed course
            (λ from by e. subst (λ l. from < length l) (sym same) (found_within d dead (room_of k) start some_place unmet (room_of k) from by (sym all_made.course ∙ e)))

        pub leaves_end : (result : Result Ended Refusal) (after_plan : List ℕ) → ended_told result ≡ outcome_answer (length listed) (length plan) (outcome_of listed course) → after_plan ≡ outcome_plan plan (outcome_of listed course) → Leaves k after plan after_plan result the_walk
        leaves_end result after_plan told laid =
            subst (Leaves k after plan after_plan result) (sym walk_is)
            (record {
              answer = told ∙ ap (λ l. outcome_answer (length l) (length plan) (outcome_of l course)) same;
              listed = ap (λ n. n.places) all_made.listed;
              plan = laid ∙ ap (λ l. outcome_plan plan (outcome_of l course)) same;
            })

-- the places at the front are used, and the others stay as they are
pub front_used : (d : ModelRecord) (dead : Row → Bool) (start : Row) (places front : List Walked) (used : ℕ) → used ≡ places_used places → front ≡ work_list_after (take used places) (walk_from d dead (length (take used places)) start)
    → front ++ drop used places ≡ work_list_after places (walk_from d dead (places_used places) start)
front_used d dead start places front used e is =
    let w = walk_from d dead (places_used places) start in
    let long : length (take used places) ≡ places_used places = omega (arith, length-take used places, e) in
    let fits : length w.listed ≤ used = omega (arith, every_walk_has_room d dead (places_used places) start, e) in
    ap (λ f. f ++ drop used places) (is ∙ ap (λ n. work_list_after (take used places) (walk_from d dead n start)) long) ∙ over_front w.listed places used fits (omega (arith, e))
