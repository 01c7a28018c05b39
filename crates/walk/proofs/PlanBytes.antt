-- The way to a listed state, move by move, and its bytes at the front of a buffer.
use Rattle.std.proofs.Common.{◌≡◌, ℕ, zero, suc, ◌+◌, ◌-◌, ◌<◌, ◌≤◌, List, [], ◌∷◌, ◌++◌, length, drop, sym, refl, ap, ◌∙◌, subst, arith, append_assoc}
use Rattle.std.proofs.Math.ListN.{set}
use Rattle.std.proofs.lemmas.List.{length_push, drop-set}
use Rattle.walk.specs.declared.walked.Walked.{Walked}
use Rattle.walk.specs.Walks.{place, way}
use Rattle.walk.specs.WorkLists.{Rooted}

pub way_bound : (n : ℕ) (listed : List Walked) (i : ℕ) → length (way n listed i) ≤ n
unfolding way
way_bound zero listed i = omega arith
way_bound (suc n) listed zero = omega arith
way_bound (suc n) listed (suc i) =
    let v = place listed (suc i) in
    omega (arith, length_push (way n listed v.from) v.by, way_bound n listed v.from)

pub way_first : (n : ℕ) (listed : List Walked) → way n listed 0 ≡ []
unfolding way
way_first zero listed = refl
way_first (suc n) listed = refl

pub way_none : (listed : List Walked) (i : ℕ) → i ≡ 0 → way i listed i ≡ []
way_none listed i e = ap (λ n. way n listed n) e ∙ way_first 0 listed

module _ (listed : List Walked) (rooted : Rooted listed) where
  -- as many steps as the place's number are enough
  way_enough : (n m i : ℕ) → i ≤ n → i ≤ m → i < length listed → way n listed i ≡ way m listed i
  unfolding way
  way_enough zero m i a b h = let e : i ≡ 0 = omega arith in rw e (sym (way_first m listed))
  way_enough (suc n) zero i a b h = let e : i ≡ 0 = omega arith in rw e refl
  way_enough (suc n) (suc m) zero a b h = refl
  way_enough (suc n) (suc m) (suc i) a b h =
      let v = place listed (suc i) in
      let r = rooted (suc i) h (omega arith) in
      ap (λ l. l ++ v.by ∷ []) (way_enough n m v.from (omega (arith, r)) (omega (arith, r)) (omega (arith, r)))

  way_step : (i : ℕ) → 0 < i → i < length listed → way i listed i ≡ way (place listed i).from listed (place listed i).from ++ (place listed i).by ∷ []
  unfolding way
  way_step zero p h = absurd (omega arith)
  way_step (suc i) p h =
      let v = place listed (suc i) in
      let r = rooted (suc i) h (omega arith) in
      ap (λ l. l ++ v.by ∷ []) (way_enough i v.from v.from (omega (arith, r)) (omega arith) (omega (arith, r)))

-- the state v at the place i came from an earlier one, with one move more
pub record OneMoveMore (listed : List Walked) (i : ℕ) (v : Walked) : Type 0 where
  pub earlier : v.from < i
  pub shorter : length (way i listed i) ≡ length (way v.from listed v.from) + 1
  -- that move is written before those that are there
  pub written : (plan : List ℕ) (left : ℕ) → left ≡ length (way i listed i) → left ≤ length plan → way v.from listed v.from ++ drop (left - 1) (set plan (left - 1) v.by) ≡ way i listed i ++ drop left plan

module _ (listed : List Walked) (i : ℕ) (v : Walked) (step : way i listed i ≡ way v.from listed v.from ++ v.by ∷ []) where
  one_longer : length (way i listed i) ≡ length (way v.from listed v.from) + 1
  one_longer = ap length step ∙ length_push (way v.from listed v.from) v.by

  written_before : (plan : List ℕ) (left : ℕ) → left ≡ length (way i listed i) → left ≤ length plan → way v.from listed v.from ++ drop (left - 1) (set plan (left - 1) v.by) ≡ way i listed i ++ drop left plan
  written_before plan left e fits =
      let moves = way v.from listed v.from in
      let some : 1 ≤ left = omega (arith, e, one_longer) in
      let next : (left - 1) + 1 ≡ left = omega arith in
      ap (λ rest. moves ++ rest) (drop-set plan (left - 1) v.by (omega arith) ∙ ap (λ n. v.by ∷ drop n plan) next)
      ∙ sym (append_assoc moves (v.by ∷ []) (drop left plan))
      ∙ ap (λ w. w ++ drop left plan) (sym step)

-- what is read at a place behind the first
pub one_move_more : (listed : List Walked) → Rooted listed → (i : ℕ) → 0 < i → i < length listed → (v : Walked) → v ≡ place listed i → OneMoveMore listed i v
one_move_more listed rooted i p h v read =
    let w = place listed i in
    let step = way_step listed rooted i p h in
    subst (OneMoveMore listed i) (sym read)
    (record { earlier = rooted i h p; shorter = one_longer listed i w step; written = written_before listed i w step })
