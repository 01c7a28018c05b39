-- A book: the rows that it has, and the detector over which it was opened.
use Rattle.std.specs.Prelude.{List, vec_items}
use Rattle.model.specs.declared.row.Row.{Row}
use Rattle.book.specs.declared.book.Book.{Book}

module _ {D : Type 0} {detecting : _} where
  abbrev pub book_rows : Book D detecting → List Row
  book_rows b = vec_items b.rows

  abbrev pub book_detector : Book D detecting → D
  book_detector b = b.detector
