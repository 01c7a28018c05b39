-- Each fact has a mark of its own.
use Rattle.std.specs.Prelude.{◌≡◌, ℕ, ◌+◌, ◌<◌, true, Some, nat_lt}
use Rattle.std.proofs.Common.{sym, ap, ◌∙◌, subst}
use Rattle.std.proofs.Math.Nat.{mul_comm}
use Rattle.std.proofs.lemmas.Bool.{ltb-true}
use Rattle.std.proofs.lemmas.Option.{cond_some}
use Rattle.first_come.specs.Marks.{Marking}
use Rattle.detectors.specs.declared.relaxed.fact.Fact.{Fact}
use Rattle.detectors.specs.Facts.{same_fact, fact_number, fact_mark}
use Rattle.detectors.specs.SameFacts.{fact_ext, fact_self, fact_equal}
use Rattle.detectors.specs.Digits.{digits}

-- facts with values below 16 are known by their numbers
pub numbers_apart : (f g : Fact) → f.value < 16 → g.value < 16 → fact_number f ≡ fact_number g → f ≡ g
numbers_apart f g a b e =
    let turned = ap (λ n. n + f.value) (mul_comm f.variable 16) ∙ e ∙ ap (λ n. n + g.value) (mul_comm 16 g.variable) in
    let parts = digits f.variable f.value g.variable g.value 16 a b turned in
    fact_ext f g parts.0 parts.1

mark_is_number : (f : Fact) (c : ℕ) → fact_mark f ≡ Some c → (f.value < 16) × (fact_number f ≡ c)
mark_is_number f c h = let parts = cond_some (nat_lt f.value 16) (fact_number f) c h in (ltb-true f.value 16 parts.0, parts.1)

pub fact_marking : Marking same_fact fact_mark
fact_marking = record {
  alike = λ f g h. ap fact_mark (fact_equal f g h);
  own = λ f g c p q.
      let a = mark_is_number f c p in
      let b = mark_is_number g c q in
      subst (λ o. same_fact f o ≡ true) (numbers_apart f g a.0 b.0 (a.1 ∙ sym b.1)) (fact_self f);
}
