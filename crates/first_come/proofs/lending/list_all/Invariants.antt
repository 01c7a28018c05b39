use Rattle.std.proofs.Common.{◌≡◌, drop}
use Rattle.first_come.specs.Arrivals.{keep_all}
use Rattle.first_come.specs.Contents.{contents, lender}
use Rattle.first_come.proofs.lending.list_all.Given as goal

abbrev pub invariant-loop-item : goal.invariant-loop-item
invariant-loop-item g l =
    (keep_all g.T.PartialEq.eq (contents l.list) (drop l.item-index l.items) ≡ keep_all g.T.PartialEq.eq (contents l.initial.list) l.items)
    × (lender l.list ≡ lender l.initial.list)
