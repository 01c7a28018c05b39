-- What a first-come list holds, and the reference that it was lent: when the list is gone, the lender has these places.
use Rattle.std.specs.Borrow.{GName}
use Rattle.first_come.specs.Arrivals.{Kept, kept}
use Rattle.first_come.specs.declared.list.FirstCome.{FirstCome}

module _ {T : Type 0} {equality : _} where
  abbrev pub contents : FirstCome T equality → Kept T
  contents list = kept list.places.now list.len

  abbrev pub lender : FirstCome T equality → GName
  lender list = list.places.ghost_name
