use Rattle.std.proofs.Common.{◌≡◌, drop}
use Rattle.model.specs.Drafts.{recorded}
use Rattle.book.specs.Offers.{entries_checked}
use Rattle.book.proofs.checking.check_entries.Given as goal

-- what is left of the list gives the whole answer
abbrev pub invariant-loop-place : goal.invariant-loop-place
invariant-loop-place l =
    let vs = (recorded l.model).variables in
    entries_checked vs l.place (drop l.place l.list) ≡ entries_checked vs 0 l.list
