use Rattle.rules.proofs.RuleLaws.{rules_told}
use Rattle.book.proofs.book.Book.rows.Goals as goal

pub returns-clause-rules : goal.returns-clause-rules
returns-clause-rules g c = rw c.as_slice.ensures.value (rules_told (g.D.Detector.carried c.args.self.now.detector) (g.D.Detector.dead c.args.self.now.detector) c.args.self.now.rows.items c.args.self.now.rules)
