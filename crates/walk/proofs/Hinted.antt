-- A state that was found at a place is listed.
use Rattle.std.proofs.Common.{◌≡◌, ℕ, zero, suc, Bool, true, List, [], ◌∷◌, Some, ap, sym, ◌∙◌, subst}
use Rattle.std.proofs.lemmas.Bool.{or_left, or_right}
use Rattle.std.specs.List.{slice_get}
use Rattle.first_come.specs.Arrivals.{has}
use Rattle.walk.specs.declared.walked.Walked.{Walked}
use Rattle.walk.specs.Sames.{same_state}

pub listed_where_found : (xs : List Walked) (i : ℕ) (held x : Walked) → slice_get xs i ≡ Some held → same_state held x ≡ true → has same_state xs x ≡ true
listed_where_found [] i held x at same = cc
listed_where_found (y ∷ ys) zero held x at same = let e : y ≡ held = cc in or_left (same_state y x) (has same_state ys x) (ap (λ (w : Walked). same_state w x) e ∙ same)
listed_where_found (y ∷ ys) (suc i) held x at same = or_right (same_state y x) (has same_state ys x) (listed_where_found ys i held x at same)
