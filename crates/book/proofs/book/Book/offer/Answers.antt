use Rattle.book.proofs.OfferLaws.{passes_exactly}
use Rattle.book.proofs.Orders.{offer_stays_lawful}
use Rattle.book.proofs.book.Book.offer.Goals as goal

pub returns-clause-passes : goal.returns-clause-passes
returns-clause-passes g c =
    let book = c.args.self.now in
    rw c.add_offered.ensures.answer
    (passes_exactly (g.D.Detector.carried book.detector) (g.D.Detector.dead book.detector) book.rows.items c.args.list.now book.rules)

pub returns-clause-lawful : goal.returns-clause-lawful
returns-clause-lawful g c =
    let book = c.args.self.now in
    rw c.add_offered.ensures.rows
    (offer_stays_lawful (g.D.Detector.carried book.detector) (g.D.Detector.dead book.detector) book.rows.items c.args.list.now (g.met.D.Detector.sealed book.detector) book.fit book.rules)
