-- What a marked list holds, and the reference that it was lent.
use Rattle.std.specs.Prelude.{ℕ}
use Rattle.std.specs.Borrow.{GName}
use Rattle.first_come.specs.Arrivals.{Kept}
use Rattle.first_come.specs.Contents.{contents, lender}
use Rattle.first_come.specs.declared.marked.MarkedList.{MarkedList}

module _ {T : Type 0} {n : ℕ} {marking : _} {equality : _} where
  abbrev pub marked_contents : MarkedList T n marking equality → Kept T
  marked_contents m = contents m.list

  abbrev pub marked_lender : MarkedList T n marking equality → GName
  marked_lender m = lender m.list
