-- Lent places with a list at their front.
use Rattle.std.proofs.Common.{◌≡◌, suc, ◌+◌, ◌<◌, ◌≤◌, List, [], ◌∷◌, ◌++◌, length, take, drop, sym, ap, ◌∙◌, arith, append_assoc}
use Rattle.std.proofs.Math.Seq.{take-append_seam}
use Rattle.std.proofs.lemmas.List.{take-append-drop, length-take-le, length_push, set_split}
use Rattle.first_come.specs.Arrivals.{Kept, kept, arrived, with_next}
use Rattle.lists.proofs.Fronts.{over_over}
use Rattle.walk.specs.WorkLists.{filled}

module _ {T : Type 0} where
  -- a list is at the front of its own places
  pub filled_self : (k : Kept T) → k.len ≤ length k.places → k ≡ filled k (arrived k)
  filled_self k h =
      let e = length-take-le k.len k.places h in
      sym (ap (λ n. kept (take k.len k.places ++ drop n k.places) n) e ∙ ap (λ p. kept p k.len) (take-append-drop k.len k.places))

  -- one item more is listed
  pub filled_next : (k : Kept T) (x : T) → k.len < length k.places → with_next k x ≡ filled k (arrived k ++ x ∷ [])
  filled_next k x h =
      let e = length-take-le k.len k.places (omega arith) in
      let more : length (arrived k ++ x ∷ []) ≡ suc k.len = omega (arith, length_push (arrived k) x, e) in
      let next : k.len + 1 ≡ suc k.len = omega arith in
      let split = set_split k.places k.len x h ∙ sym (append_assoc (arrived k) (x ∷ []) (drop (suc k.len) k.places)) in
      ap (λ p. kept p (k.len + 1)) split ∙ ap (kept ((arrived k ++ x ∷ []) ++ drop (suc k.len) k.places)) next ∙ sym (ap (λ n. kept ((arrived k ++ x ∷ []) ++ drop n k.places) n) more)

  pub arrived_filled : (k : Kept T) (xs : List T) → arrived (filled k xs) ≡ xs
  arrived_filled k xs = take-append_seam xs (drop (length xs) k.places)

  pub filled_filled : (k : Kept T) (xs ys : List T) → length xs ≤ length ys → filled (filled k xs) ys ≡ filled k ys
  filled_filled k xs ys h = ap (λ p. kept p (length ys)) (over_over xs ys k.places h)
