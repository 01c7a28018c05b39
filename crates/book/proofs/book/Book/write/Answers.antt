use Rattle.book.proofs.NoPlan.{book_lawful}
use Rattle.book.proofs.book.Book.write.Goals as goal

pub returns-clause-lawful : goal.returns-clause-lawful
returns-clause-lawful g c =
    let book = c.args.self.now in
    book_lawful (g.D.Detector.carried book.detector) (g.D.Detector.dead book.detector) book.rows.items (g.met.D.Detector.sealed book.detector) book.rules
