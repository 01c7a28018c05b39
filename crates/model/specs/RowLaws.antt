-- Containment of rows is an order.
use Rattle.std.specs.Prelude.{◌≡◌, true}
use Rattle.model.specs.declared.row.Row.{Row}
use Rattle.model.specs.Rows.{contained}

unfoldable pub ContainmentIsReflexive : Type 0
ContainmentIsReflexive = (r : Row) → contained r r ≡ true

unfoldable pub ContainmentIsTransitive : Type 0
ContainmentIsTransitive = (r s t : Row) → contained r s ≡ true → contained s t ≡ true → contained r t ≡ true

unfoldable pub ContainmentIsAntisymmetric : Type 0
ContainmentIsAntisymmetric = (r t : Row) → contained r t ≡ true → contained t r ≡ true → r ≡ t
