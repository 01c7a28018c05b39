-- Rows are known by their entries.
use Rattle.std.proofs.Common.{◌≡◌, ℕ, ◌<◌, ◌≤◌, None, Option, arith}
use Rattle.std.proofs.lemmas.List.{get_or_past}
use Rattle.std.proofs.lemmas.List.FromFn.{get_or-map-range_with_len}
use Rattle.model.specs.declared.row.Row.{Row}
use Rattle.model.specs.Rows.{at, row_of}

pub at_row_of : (f : ℕ → Option ℕ) (i : ℕ) → i < 32 → at (row_of f) i ≡ f i
unfolding row_of
at_row_of f i l = get_or-map-range_with_len f 0 32 i i None l (omega arith)

-- no row gives anything from the 33rd variable on
pub open_past : (row : Row) (i : ℕ) → 32 ≤ i → at row i ≡ None
open_past row i past = get_or_past row.entries i None (omega (arith, row.full))
