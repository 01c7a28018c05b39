-- The elements of a list.
use Rattle.std.specs.Prelude.{◌≡◌, ◌⊎◌, List, [], ◌∷◌}

-- x is one of the elements
abbrev pub Among : {X : Type 0} → List X → X → Type 0
Among [] x = ⊥
Among (y ∷ ys) x = (y ≡ x) ⊎ Among ys x

-- each element of the one is one of the other
abbrev pub Within : {X : Type 0} → List X → List X → Type 0
Within xs ys = (x : _) → Among xs x → Among ys x
