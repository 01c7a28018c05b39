-- Each cut has a mark of its own.
use Rattle.std.specs.Prelude.{◌≡◌, ℕ, ◌+◌, ◌*◌, ◌<◌, true, ◌&&◌, Some, None, Option, nat_lt, refl}
use Rattle.std.proofs.Common.{sym, ap, ◌∙◌, subst}
use Rattle.std.proofs.Math.Nat.{add_right_cancel, suc-ne-zero}
use Rattle.std.proofs.Math.Numerals.{add-one}
use Rattle.std.proofs.lemmas.Bool.{and_parts, ltb-true}
use Rattle.std.proofs.lemmas.Option.{cond_some}
use Rattle.first_come.specs.Marks.{Marking}
use Rattle.detectors.specs.declared.pattern.cut.Cut.{Cut}
use Rattle.detectors.specs.Cuts.{same_cut}
use Rattle.detectors.specs.CutMarks.{digit_of, code, cut_mark}
use Rattle.detectors.specs.CutSameness.{from_entries, cut_self, cut_equal}
use Rattle.detectors.specs.Digits.{digits}

-- what a mark says of its cut
abbrev Marked : Cut → ℕ → Type 0
Marked s c = (code s ≡ c) × (digit_of s.first < 17) × (digit_of s.second < 17) × (digit_of s.third < 17)

marked : (s : Cut) (c : ℕ) → cut_mark s ≡ Some c → Marked s c
marked s c is =
    let parts = cond_some (nat_lt (digit_of s.first) 17 && (nat_lt (digit_of s.second) 17 && nat_lt (digit_of s.third) 17)) (code s) c is in
    let a = and_parts (nat_lt (digit_of s.first) 17) _ parts.0 in
    let b = and_parts (nat_lt (digit_of s.second) 17) _ a.1 in
    (parts.1, ltb-true _ _ a.0, ltb-true _ _ b.0, ltb-true _ _ b.1)

-- an entry is known by its digit
digit_own : (a b : Option ℕ) → digit_of a ≡ digit_of b → a ≡ b
digit_own None None h = refl
digit_own None (Some w) h = absurd (suc-ne-zero w (sym (h ∙ add-one w)))
digit_own (Some v) None h = absurd (suc-ne-zero v (sym (add-one v) ∙ h))
digit_own (Some v) (Some w) h = ap (λ n. Some n) (add_right_cancel 1 h)

mark_own : (s t : Cut) (c : ℕ) → cut_mark s ≡ Some c → cut_mark t ≡ Some c → s ≡ t
mark_own s t c p q =
    let a = marked s c p in
    let b = marked t c q in
    let low = digits (digit_of s.first * 17 + digit_of s.second) (digit_of s.third) (digit_of t.first * 17 + digit_of t.second) (digit_of t.third) 17 a.3 b.3 (a.0 ∙ sym b.0) in
    let high = digits (digit_of s.first) (digit_of s.second) (digit_of t.first) (digit_of t.second) 17 a.2 b.2 low.0 in
    from_entries s t (digit_own s.first t.first high.0) (digit_own s.second t.second high.1) (digit_own s.third t.third low.1)

pub cut_marking : Marking same_cut cut_mark
cut_marking = record {
  alike = λ s t h. ap cut_mark (cut_equal s t h);
  own = λ s t c p q. subst (λ u. same_cut s u ≡ true) (mark_own s t c p q) (cut_self s);
}
