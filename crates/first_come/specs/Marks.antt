-- A table of marks beside a first-come list, which tells at once whether an item is listed.
use Rattle.std.specs.Prelude.{◌≡◌, ℕ, ◌<◌, Bool, true, false, List, length, Some, None, Option, slice_index_or, slice_set}
use Rattle.first_come.specs.Arrivals.{has}

-- the table with the mark c set, if it has that mark
abbrev pub with_mark : List Bool → Option ℕ → List Bool
with_mark marks None = marks
with_mark marks (Some c) = slice_set marks c true

module _ {T : Type 0} (same : T → T → Bool) where
  -- Which mark an item has, if any: the same items have the same mark, and items with the same mark are the same.
  pub record Marking (mark : T → Option ℕ) : Type 0 where
    pub alike : (x y : T) → same x y ≡ true → mark x ≡ mark y
    pub own : (x y : T) (c : ℕ) → mark x ≡ Some c → mark y ≡ Some c → same x y ≡ true

  -- the marks are true: an item that has a mark in the table is marked exactly if it is listed
  abbrev pub Agree : (T → Option ℕ) → List Bool → List T → Type 0
  Agree mark marks xs = (x : T) (c : ℕ) → mark x ≡ Some c → c < length marks → slice_index_or marks c false ≡ has same xs x
