-- What is listed stays at its place.
use Rattle.std.proofs.Common.{◌≡◌, ℕ, zero, suc, Bool, true, List, [], ◌∷◌, Some, refl, ap, ◌∙◌, subst, ⊎_elim}
use Rattle.std.specs.List.{slice_get}
use Rattle.std.proofs.lemmas.Bool.{or_cases, or_left, or_right, false≢true}
use Rattle.lists.proofs.Fronts.{Front, front_none, front_append}
use Rattle.first_come.specs.Arrivals.{Kept, arrived, has, keep, keep_all}
use Rattle.first_come.proofs.Arrivals.{put_cases, arrived_next}

module _ {T : Type 0} (same : T → T → Bool) where
  pub nth_has : ((x : T) → same x x ≡ true) → (xs : List T) (i : ℕ) (x : T) → slice_get xs i ≡ Some x → has same xs x ≡ true
  nth_has self [] i x h = cc
  nth_has self (y ∷ ys) zero x h = let e : y ≡ x = cc in or_left (same y x) (has same ys x) (subst (λ z. same y z ≡ true) e (self y))
  nth_has self (y ∷ ys) (suc i) x h = or_right (same y x) (has same ys x) (nth_has self ys i x h)

  pub has_nth : ((x y : T) → same x y ≡ true → x ≡ y) → (xs : List T) (x : T) → has same xs x ≡ true → (i : ℕ) × (slice_get xs i ≡ Some x)
  has_nth equal [] x h = absurd (false≢true h)
  has_nth equal (y ∷ ys) x h =
      ⊎_elim (λ e. (0, ap (λ z. Some z) (equal y x e))) (λ t. let r = has_nth equal ys x t in (suc r.0, r.1)) (or_cases (same y x) (has same ys x) h)

  front_keep : (k : Kept T) (x : T) → Front (arrived k) (arrived (keep same k x))
  front_keep k x =
      put_cases k x (λ n. Front (arrived k) (arrived n)) (has same (arrived k) x) (λ _. front_none (arrived k))
      (λ _ room. rw (arrived_next k x room) (front_append (arrived k) (x ∷ [])))
      (λ _ _. front_none (arrived k))

  pub front_keep_all : (k : Kept T) (xs : List T) → Front (arrived k) (arrived (keep_all same k xs))
  front_keep_all k [] i h = (h, refl)
  front_keep_all k (x ∷ xs) i h =
      let a = front_keep k x i h in
      let b = front_keep_all (keep same k x) xs i a.0 in
      (b.0, b.1 ∙ a.1)
