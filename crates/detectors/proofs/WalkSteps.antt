-- Steps of the walk.
use Rattle.std.proofs.Common.{◌≡◌, ℕ, zero, suc, ◌+◌, ◌-◌, ◌<◌, ◌≤◌, List, drop, get_or, length, Some, None, sym, refl, ap, ◌∙◌, arith}
use Rattle.std.proofs.lemmas.List.{at_drop_more}
use Rattle.std.specs.List.{slice_get}
use Rattle.first_come.specs.Arrivals.{Kept, arrived, keep_all}
use Rattle.detectors.specs.declared.pattern.cut.Cut.{Cut}
use Rattle.detectors.specs.declared.pattern.cut.CutMove.{CutMove}
use Rattle.detectors.specs.Cuts.{same_cut}
use Rattle.detectors.specs.CutWalk.{result_of, results, walk_from}
use Rattle.first_come.proofs.Listings.{keep_all_append}

module _ (place : ℕ) (k : Kept Cut) (ms : List CutMove) where
  -- the cut at a place is taken
  pub walk_on : (bound : ℕ) (t : Cut) → place < bound → slice_get (arrived k) place ≡ Some t → walk_from (bound - place) place k ms ≡ walk_from (bound - (place + 1)) (place + 1) (keep_all same_cut k (results ms t)) ms
  unfolding walk_from
  walk_on bound t l h = let e : bound - place ≡ suc (bound - (place + 1)) = omega arith in ap (λ n. walk_from n place k ms) e ∙ rw h refl

  -- where no cut is left, the list stays as it is
  pub walk_end : (n : ℕ) → slice_get (arrived k) place ≡ None → walk_from n place k ms ≡ k
  unfolding walk_from
  walk_end zero h = refl
  walk_end (suc n) h = rw h refl

  -- and where no more may be taken
  pub walk_full : (bound : ℕ) → bound ≤ place → walk_from (bound - place) place k ms ≡ k
  unfolding walk_from
  walk_full bound l = let e : bound - place ≡ 0 = omega arith in ap (λ n. walk_from n place k ms) e

-- one move more is followed: n is what the list was before it
pub follow_next : (n k : Kept Cut) (ms : List CutMove) (i : ℕ) (m : CutMove) (t : Cut) → i < length ms → k ≡ keep_all same_cut n (result_of (get_or ms i m) t) → keep_all same_cut k (results (drop (i + 1) ms) t) ≡ keep_all same_cut n (results (drop i ms) t)
follow_next n k ms i m t l is =
    ap (λ o. keep_all same_cut o (results (drop (i + 1) ms) t)) is
    ∙ sym (keep_all_append same_cut n (result_of (get_or ms i m) t) (results (drop (i + 1) ms) t))
    ∙ sym (at_drop_more (λ rest. keep_all same_cut n (results rest t)) ms i m l)
