-- Rows and walked states are known by what they hold, and so are lists of them.
use Rattle.std.proofs.Common.{◌≡◌, ℕ, List, [], ◌∷◌, map, Option, refl}
use Rattle.model.specs.declared.row.Row.{Row}
use Rattle.model.specs.SameRows.{same_entries}
use Rattle.walk.specs.declared.walked.Walked.{Walked}

-- a list is known by what is told of its items, if each item is
lists_known : {X Y : Type 0} (told : X → Y) → ((x y : X) → told x ≡ told y → x ≡ y) → (xs ys : List X) → map told xs ≡ map told ys → xs ≡ ys
lists_known told known [] [] e = refl
lists_known told known [] (y ∷ ys) e = cc
lists_known told known (x ∷ xs) [] e = cc
lists_known told known (x ∷ xs) (y ∷ ys) e =
    let first : told x ≡ told y = cc in
    let others : map told xs ≡ map told ys = cc in
    cc (known x y first, lists_known told known xs ys others)

abbrev row_told : Row → List (Option ℕ)
row_told r = r.entries

pub rows_known : (rs ts : List Row) → map row_told rs ≡ map row_told ts → rs ≡ ts
rows_known = lists_known row_told same_entries

abbrev walked_told : Walked → List (Option ℕ) × (ℕ × ℕ)
walked_told w = (w.state.entries, (w.from, w.by))

walked_known : (v w : Walked) → walked_told v ≡ walked_told w → v ≡ w
walked_known v w e = λ i. record { state = same_entries v.state w.state (λ j. (e j).0) i; from = (e i).1.0; by = (e i).1.1 }

pub all_walked_known : (vs ws : List Walked) → map walked_told vs ≡ map walked_told ws → vs ≡ ws
all_walked_known = lists_known walked_told walked_known
