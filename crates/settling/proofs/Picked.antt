-- Items that are picked by their places.
use Rattle.std.proofs.Common.{◌≡◌, zero, suc, Bool, true, false, List, [], ◌∷◌, length, map, refl, ap, inl, inr, ⊎_elim, arith}
use Rattle.std.proofs.lemmas.Bool.{cond_both, false≢true}
use Rattle.std.specs.List.{filter}
use Rattle.lists.specs.Members.{Among, Within}
use Rattle.settling.specs.Selections.{picked, WithinPlaces}

module _ {X : Type 0} where
  pub picked_from : (choice : List Bool) (xs : List X) → Within (picked choice xs) xs
  picked_from [] xs x a = absurd a
  picked_from (takes ∷ choice) [] x a = a
  picked_from (takes ∷ choice) (y ∷ ys) x a =
      cond_both takes (y ∷ picked choice ys) (picked choice ys) (λ l. Among l x → Among (y ∷ ys) x)
      (λ _. ⊎_elim inl (λ b. inr (picked_from choice ys x b))) (λ _ b. inr (picked_from choice ys x b)) a

  -- what is picked behind the first place
  picked_later : (takes : Bool) (choice : List Bool) (y : X) (ys : List X) → Within (picked choice ys) (picked (takes ∷ choice) (y ∷ ys))
  picked_later true choice y ys x a = inr a
  picked_later false choice y ys x a = a

  module _ (p : X → Bool) where
    -- a filter picks the places of the items that pass
    pub filter_picks : (xs : List X) → filter p xs ≡ picked (map p xs) xs
    filter_picks [] = refl
    filter_picks (x ∷ xs) = rw (filter_picks xs) refl

    pub one_for_each : (xs : List X) → length (map p xs) ≡ length xs
    one_for_each [] = refl
    one_for_each (x ∷ xs) = ap suc (one_for_each xs)

    -- where all that is picked passes, it is picked within these places
    pub picked_within : (chosen : List Bool) (xs : List X) → ((x : X) → Among (picked chosen xs) x → p x ≡ true) → WithinPlaces xs chosen (map p xs)
    picked_within chosen [] pass i l h = absurd (omega arith)
    picked_within [] (x ∷ xs) pass i l h = absurd (false≢true h)
    picked_within (true ∷ chosen) (x ∷ xs) pass zero l h = pass x (inl refl)
    picked_within (false ∷ chosen) (x ∷ xs) pass zero l h = absurd (false≢true h)
    picked_within (takes ∷ chosen) (x ∷ xs) pass (suc i) l h =
        picked_within chosen xs (λ z a. pass z (picked_later takes chosen x xs z a)) i (omega arith) h
