-- A walk in order of arrival over cuts.
use Rattle.std.specs.Prelude.{ℕ, zero, suc, ◌+◌, Bool, cond, not, List, [], ◌∷◌, flat_map, replicate, Some, None, Option}
use Rattle.std.specs.List.{slice_get, list_any}
use Rattle.first_come.specs.Arrivals.{Kept, kept, arrived, keep, keep_all}
use Rattle.detectors.specs.declared.pattern.cut.Cut.{Cut}
use Rattle.detectors.specs.declared.pattern.cut.CutMove.{CutMove}
use Rattle.detectors.specs.Cuts.{same_cut, contained_cut, applicable_cut, progression_cut}

abbrev pub open_cut : Cut
open_cut = record { first = None; second = None; third = None }

-- where the move leads from t, if it is applicable
abbrev pub result_of : CutMove → Cut → List Cut
result_of m t = cond (applicable_cut m t) (progression_cut m t ∷ []) []

-- where the moves lead
abbrev pub results : List CutMove → Cut → List Cut
results ms t = flat_map (λ m. result_of m t) ms

-- the list as it is, or what is made of it with the cut that was read
abbrev pub if_read : Option Cut → Kept Cut → (Cut → Kept Cut) → Kept Cut
if_read None k next = k
if_read (Some t) k next = next t

-- takes the listed cuts in order from a place on, at most n of them, and lists where the moves lead from each
unfoldable pub walk_from : ℕ → ℕ → Kept Cut → List CutMove → Kept Cut
walk_from zero place k ms = k
walk_from (suc n) place k ms = if_read (slice_get (arrived k) place) k (λ t. walk_from n (place + 1) (keep_all same_cut k (results ms t)) ms)

-- the cuts reached from the first, in 512 places
unfoldable pub walked : List CutMove → Cut → Kept Cut
walked ms first = walk_from 512 0 (keep same_cut (kept (replicate 512 open_cut) 0) first) ms

-- one of the cuts contains the goal
abbrev pub some_contains : Cut → List Cut → Bool
some_contains goal ts = list_any (contained_cut goal) ts

-- none of those reached contains the goal
unfoldable pub cut_off : List CutMove → Cut → Cut → Bool
cut_off ms goal first = not (some_contains goal (arrived (walked ms first)))
