-- The entries of a list, checked row by row.
use Rattle.std.proofs.Common.{◌≡◌, ℕ, ◌+◌, ◌<◌, ◌≤◌, List, length, drop, get_or, Ok, Err, sym, ◌∙◌}
use Rattle.std.proofs.lemmas.List.{drop_more, drop_all}
use Rattle.std.specs.Result.{result_and}
use Rattle.refusal.specs.declared.Refusal.{Refusal}
use Rattle.model.specs.declared.row.Row.{Row}
use Rattle.model.specs.declared.variable.Variable.{Variable}
use Rattle.model.specs.WrongEntries.{row_checked}
use Rattle.book.specs.Refusals.{Checked, refused_row}
use Rattle.book.specs.Offers.{in_row, entries_checked}

module _ (vs : List Variable) (list : List Row) (i : ℕ) (whole : Checked) (left : entries_checked vs i (drop i list) ≡ whole) where
  module _ (row : Row) (within : i < length list) (read : row ≡ get_or list i row) where
    more : entries_checked vs i (drop i list) ≡ result_and (in_row i (row_checked vs row)) (entries_checked vs (i + 1) (drop (i + 1) list))
    unfolding entries_checked
    more = rw (drop_more list i row within, sym read)

    pub row_refused : (why : Refusal) → Err why ≡ row_checked vs row → Err (refused_row why i) ≡ whole
    row_refused why told = sym (rw (sym told) at more) ∙ left

    pub row_passed : Ok tt ≡ row_checked vs row → entries_checked vs (i + 1) (drop (i + 1) list) ≡ whole
    row_passed told = sym (rw (sym told) at more) ∙ left

  pub rows_ended : length list ≤ i → Ok tt ≡ whole
  unfolding entries_checked
  rows_ended h = rw (drop_all i list h) at left
