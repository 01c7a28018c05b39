use Rattle.book.proofs.NoPlan.{no_state_has_a_plan, book_lawful}
use Rattle.book.proofs.book.Book.judge.Goals as goal

pub returns-clause-no_plan : goal.returns-clause-no_plan
returns-clause-no_plan g c = no_state_has_a_plan

pub returns-clause-lawful : goal.returns-clause-lawful
returns-clause-lawful g c =
    let book = c.args.self.now in
    book_lawful (g.D.Detector.carried book.detector) (g.D.Detector.dead book.detector) book.rows.items (g.met.D.Detector.sealed book.detector) book.rules
