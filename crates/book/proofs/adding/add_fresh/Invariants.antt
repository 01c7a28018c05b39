use Rattle.std.proofs.Common.{◌≡◌, ◌≤◌, ◌++◌, take}
use Rattle.std.specs.Prelude.{vec_items, vec_len, vec_capacity}
use Rattle.book.specs.Adding.{fresh}
use Rattle.book.proofs.FreshRows.{in_the_end}
use Rattle.book.proofs.adding.add_fresh.Given as goal

abbrev pub invariant-loop-row : goal.invariant-loop-row
invariant-loop-row l =
    let own = vec_items l.fn.rows in
    record {
      whole : in_the_end (vec_items l.rows) l.list l.row-index ≡ own ++ fresh own l.list;
      front : take l.before (vec_items l.rows) ≡ own;
      longer : l.before ≤ vec_len l.rows;
      few : vec_len l.rows ≤ 256;
      room : 256 ≤ vec_capacity l.rows;
    }
