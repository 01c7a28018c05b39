-- Items that are selected by their places.
use Rattle.std.specs.Prelude.{◌≡◌, ◌<◌, ℕ, Bool, true, false, cond, List, [], ◌∷◌, length, slice_index_or}

-- the items at the places that a choice takes, in their order; a choice says of each place whether it takes it
abbrev pub picked : {X : Type 0} → List Bool → List X → List X
picked [] xs = []
picked (takes ∷ choice) [] = []
picked (takes ∷ choice) (x ∷ xs) = cond takes (x ∷ picked choice xs) (picked choice xs)

-- each place of the list that the one choice takes is taken by the other
abbrev pub WithinPlaces : {X : Type 0} → List X → List Bool → List Bool → Type 0
WithinPlaces list chosen places = (i : ℕ) → i < length list → slice_index_or chosen i false ≡ true → slice_index_or places i false ≡ true
