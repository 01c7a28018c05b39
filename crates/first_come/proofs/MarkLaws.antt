-- A table of marks stays true while items are listed.
use Rattle.std.proofs.Common.{◌≡◌, ℕ, ◌<◌, Bool, true, false, cond, ◌≢◌, List, [], ◌∷◌, ◌++◌, length, Some, None, Option, sym, ap, ◌∙◌, subst, ⊎_elim, arith}
use Rattle.std.proofs.lemmas.List.{get_or-set_same, get_or-set_other, length-set}
use Rattle.std.proofs.Math.Bool.{or-false, or-true}
use Rattle.std.proofs.lemmas.Bool.{false_from_ne_true, cases_eq}
use Rattle.first_come.specs.Arrivals.{Kept, arrived, has_room, with_next, put_unless}
use Rattle.first_come.specs.Marks.{with_mark, Marking, Agree}
use Rattle.first_come.proofs.Arrivals.{has_push, arrived_next}

module _ {T : Type 0} (same : T → T → Bool) (mark : T → Option ℕ) (laws : Marking same mark) where
  -- items with other marks are not the same
  apart : (x f : T) (d : ℕ) → mark f ≡ Some d → (mark x ≡ Some d → ⊥) → same x f ≡ false
  apart x f d h ne = false_from_ne_true (same x f) (λ e. ne (laws.alike x f e ∙ h))

  -- one more item, and its mark, if the table has one
  agree_more : (marks : List Bool) (xs : List T) (x : T) (m : Option ℕ) → m ≡ mark x → Agree same mark marks xs → Agree same mark (with_mark marks m) (xs ++ x ∷ [])
  agree_more marks xs x None is agree f d h l = rw (has_push same xs x f, apart x f d h (λ q. cc), or-false) (agree f d h l)
  agree_more marks xs x (Some c) is agree f d h l =
      let within : d < length marks = subst (λ n. d < n) (length-set marks c true) l in
      ⊎_elim
      (λ (e : d ≡ c).
      rw (has_push same xs x f, laws.own x f c (sym is) (h ∙ ap (λ n. Some n) e), or-true, e) (get_or-set_same marks c true false (omega (arith, within, e))))
      (λ (ne : d ≢ c).
      rw (has_push same xs x f, apart x f d h (λ q. ne (cc)), or-false) (get_or-set_other marks c d true false ne ∙ agree f d h within))
      (cases_eq d c)

  -- an item that was put, and marked
  pub agree_after : (k after : Kept T) (marks marked : List Bool) (x : T) (m : Option ℕ) → Agree same mark marks (arrived k) → has_room k ≡ true → after ≡ put_unless false k x → m ≡ mark x → marked ≡ with_mark marks m → Agree same mark marked (arrived after)
  agree_after k after marks marked x m agree room put is set =
      let added : arrived after ≡ arrived k ++ x ∷ [] = ap arrived (put ∙ ap (λ q. cond q (with_next k x) k) room) ∙ arrived_next k x room in
      rw (added, set) (agree_more marks (arrived k) x m is agree)
