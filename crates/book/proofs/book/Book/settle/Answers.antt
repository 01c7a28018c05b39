use Rattle.book.proofs.SettleLaws.{largest_if_answered}
use Rattle.book.proofs.Orders.{settle_stays_lawful}
use Rattle.book.proofs.book.Book.settle.Goals as goal

pub returns-clause-largest : goal.returns-clause-largest
returns-clause-largest g c =
    let book = c.args.self.now in
    rw c.add_settled.ensures.answer
    (largest_if_answered (g.D.Detector.carried book.detector) (g.D.Detector.dead book.detector) book.rows.items c.args.candidates.now (g.met.D.Detector.sealed book.detector) book.rules)

pub returns-clause-lawful : goal.returns-clause-lawful
returns-clause-lawful g c =
    let book = c.args.self.now in
    rw c.add_settled.ensures.rows
    (settle_stays_lawful (g.D.Detector.carried book.detector) (g.D.Detector.dead book.detector) book.rows.items c.args.candidates.now (g.met.D.Detector.sealed book.detector) book.fit book.rules)
