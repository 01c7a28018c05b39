-- Facts are the same where they are equal.
use Rattle.std.specs.Prelude.{◌≡◌, true, Decides, ◌==◌, refl}
use Rattle.std.proofs.lemmas.Bool.Decides.{Decides-and, Decides-eqb}
use Rattle.std.specs.Cmp.{IsEquivalence}
use Rattle.first_come.proofs.Sameness.{from_equality}
use Rattle.detectors.specs.declared.relaxed.fact.Fact.{Fact}
use Rattle.detectors.specs.Facts.{same_fact}

-- facts are known by their parts
pub fact_ext : (f g : Fact) → f.variable ≡ g.variable → f.value ≡ g.value → f ≡ g
fact_ext f g p q = λ i. record { variable = p i; value = q i }

same_fact_decides : (f g : Fact) → Decides (same_fact f g) ((f.variable ≡ g.variable) × (f.value ≡ g.value))
same_fact_decides f g = Decides-and (f.variable == g.variable) (f.value == g.value) (Decides-eqb f.variable g.variable) (Decides-eqb f.value g.value)

pub fact_self : (f : Fact) → same_fact f f ≡ true
fact_self f = (same_fact_decides f f).1 (refl, refl)

pub fact_equal : (f g : Fact) → same_fact f g ≡ true → f ≡ g
fact_equal f g h = let e = (same_fact_decides f g).0 h in fact_ext f g e.0 e.1

pub same_fact_equivalence : IsEquivalence same_fact
same_fact_equivalence = from_equality same_fact fact_self fact_equal
