-- Laws of first-come lists.
use Rattle.std.proofs.Common.{◌≡◌, Bool, true, false, ◌||◌, List, [], ◌∷◌, ◌++◌, length, sym, refl, ap, ◌∙◌}
use Rattle.std.proofs.lemmas.List.{take_more_set}
use Rattle.std.proofs.Math.Bool.{or-false, or_assoc}
use Rattle.std.proofs.lemmas.Bool.{or_parts, or_from, cond_both, ltb-true}
use Rattle.std.specs.Cmp.{IsEquivalence}
use Rattle.first_come.specs.Arrivals.{Kept, arrived, has, has_room, with_next, put_unless, keep, Distinct}

module _ {T : Type 0} (k : Kept T) (x : T) where
  -- an item that is put was held, or is added, or no place is left
  pub put_cases : (Q : Kept T → Type 0) (held : Bool) → (held ≡ true → Q k) → (held ≡ false → has_room k ≡ true → Q (with_next k x)) → (held ≡ false → has_room k ≡ false → Q k) → Q (put_unless held k x)
  put_cases Q held there added full = cond_both held _ _ Q there (λ new. cond_both (has_room k) _ _ Q (added new) (full new))

  -- an item that is added stands behind the others
  pub arrived_next : has_room k ≡ true → arrived (with_next k x) ≡ arrived k ++ x ∷ []
  arrived_next room = take_more_set k.places k.len x (ltb-true k.len (length k.places) room)

module _ {T : Type 0} (same : T → T → Bool) where
  pub has_both : (xs ys : List T) (y : T) → has same (xs ++ ys) y ≡ (has same xs y || has same ys y)
  has_both [] ys y = refl
  has_both (x ∷ xs) ys y = ap (λ b. same x y || b) (has_both xs ys y) ∙ sym (or_assoc (same x y) (has same xs y) (has same ys y))

  pub has_push : (xs : List T) (x y : T) → has same (xs ++ x ∷ []) y ≡ (has same xs y || same x y)
  has_push xs x y = has_both xs (x ∷ []) y ∙ ap (λ b. has same xs y || b) (or-false (same x y))

  pub distinct_push : IsEquivalence same → (xs : List T) (x : T) → Distinct same xs → has same xs x ≡ false → Distinct same (xs ++ x ∷ [])
  distinct_push laws [] x d h = (refl, tt)
  distinct_push laws (y ∷ ys) x d h =
      let apart = or_parts (same y x) (has same ys x) h in
      (has_push ys x y ∙ or_from (has same ys y) (same x y) d.0 (laws.symm x y ∙ apart.0), distinct_push laws ys x d.1 apart.1)

  -- an item that is not listed, put in the next place
  pub distinct_next : IsEquivalence same → (k : Kept T) (x : T) → Distinct same (arrived k) → has same (arrived k) x ≡ false → has_room k ≡ true → Distinct same (arrived (with_next k x))
  distinct_next laws k x d new room = rw (arrived_next k x room) (distinct_push laws (arrived k) x d new)

  -- where an item is listed, the listed items stay apart
  pub distinct_keep : IsEquivalence same → (k : Kept T) (x : T) → Distinct same (arrived k) → Distinct same (arrived (keep same k x))
  distinct_keep laws k x d =
      put_cases k x (λ n. Distinct same (arrived n)) (has same (arrived k) x) (λ _. d) (distinct_next laws k x d) (λ _ _. d)
