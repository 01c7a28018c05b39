-- What a first-come list holds and answers.
use Rattle.std.specs.Prelude.{◌≡◌, ℕ, suc, ◌+◌, Bool, true, false, cond, ◌||◌, List, [], ◌∷◌, ◌++◌, length, take, Some, None, Option, nat_lt, slice_set}
use Rattle.std.specs.Coded.{×_prop, Unit-prop}
use mathlib.Core.Bool.{Bool-set}
use Rattle.first_come.specs.declared.listed.Listed.{Listed}
use Rattle.first_come.specs.declared.listed.Listed.TheVariants.{Already, Added, Full}

-- the lent places, of which the first `len` are in use
pub record Kept (T : Type 0) : Type 0 where
  pub places : List T
  pub len : ℕ

abbrev pub kept : {T : Type 0} → List T → ℕ → Kept T
kept places len = record { places = places; len = len }

-- the items listed, in order of arrival
abbrev pub arrived : {T : Type 0} → Kept T → List T
arrived k = take k.len k.places

-- a place is left
abbrev pub has_room : {T : Type 0} → Kept T → Bool
has_room k = nat_lt k.len (length k.places)

-- the next place, if one is left
abbrev pub next_place : {T : Type 0} → Kept T → Option ℕ
next_place k = cond (has_room k) (Some k.len) None

-- x in the next place; no other place changes
abbrev pub with_next : {T : Type 0} → Kept T → T → Kept T
with_next k x = kept (slice_set k.places k.len x) (k.len + 1)

-- x is put in the next place, if one is left, unless `held` says that it is listed
abbrev pub put_unless : {T : Type 0} → Bool → Kept T → T → Kept T
put_unless held k x = cond held k (cond (has_room k) (with_next k x) k)

-- whether an item is new in the list, and the place at which it stands then, if it does
abbrev pub Answer : Type 0
Answer = Bool × Option ℕ

abbrev pub listed_told : Listed → Answer
listed_told (Already place) = (false, Some place)
listed_told (Added place) = (true, Some place)
listed_told Full = (false, None)

module _ {T : Type 0} (same : T → T → Bool) where
  -- some item of the list is the same as x
  abbrev pub has : List T → T → Bool
  has [] x = false
  has (y ∷ ys) x = same y x || has ys x

  -- the first place of an item that is the same as x, else the length
  abbrev pub place_of : List T → T → ℕ
  place_of [] x = 0
  place_of (y ∷ ys) x = cond (same y x) 0 (suc (place_of ys x))

  abbrev pub found_at : List T → T → Option ℕ
  found_at xs x = cond (has xs x) (Some (place_of xs x)) None

  -- no two items are the same
  abbrev pub Distinct : List T → Type 0
  Distinct [] = Unit {0}
  Distinct (x ∷ xs) = (has xs x ≡ false) × Distinct xs

  -- there is one proof of that, so that a list can keep it as an invariant
  pub distinct_prop : (xs : List T) → IsProp (Distinct xs)
  distinct_prop [] = Unit-prop
  distinct_prop (x ∷ xs) = ×_prop (Bool-set _ _) (distinct_prop xs)

  -- what is answered when x is listed: there already, added, or full
  abbrev pub answer : Kept T → T → Answer
  answer k x = cond {A = Answer} (has (arrived k) x) (false, Some (place_of (arrived k) x)) (cond {A = Answer} (has_room k) (true, Some k.len) (false, None))

  -- what is kept then
  abbrev pub keep : Kept T → T → Kept T
  keep k x = put_unless (has (arrived k) x) k x

  -- the items of a list, one after another
  abbrev pub keep_all : Kept T → List T → Kept T
  keep_all k [] = k
  keep_all k (x ∷ xs) = keep_all (keep k x) xs

  -- In order of arrival: the items are those that were listed, with x behind them if none was the same and a place was left.
  abbrev pub InOrderOfArrival : Kept T → T → Kept T → Type 0
  InOrderOfArrival k x after = arrived after ≡ cond (has (arrived k) x) (arrived k) (cond (has_room k) (arrived k ++ x ∷ []) (arrived k))
