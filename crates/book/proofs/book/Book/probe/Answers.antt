use Rattle.std.proofs.Common.{arith}
use Rattle.book.proofs.ProbeLaws.{probe_keeps}
use Rattle.book.proofs.ProbeRight.{probe_is_right}
use Rattle.book.proofs.book.Book.probe.Goals as goal

pub returns-clause-right : goal.returns-clause-right
returns-clause-right g c =
    let book = c.args.self.now in
    let d = g.D.Detector.carried book.detector in
    λ lawful. rw (c.probed.ensures.answer, c.probed.ensures.plan)
    (probe_is_right d (g.D.Detector.dead book.detector) book.rows.items c.args.state.now (g.met.D.Detector.sealed book.detector) lawful c.args.work_list.now c.args.plan.now)

pub returns-clause-lawful : goal.returns-clause-lawful
returns-clause-lawful g c =
    let book = c.args.self.now in
    let kept = probe_keeps (g.D.Detector.carried book.detector) (g.D.Detector.dead book.detector) (g.met.D.Detector.sealed book.detector) book.rows.items (omega (arith, book.few)) book.fit book.once book.rules c.args.state.now c.args.work_list.now in
    rw c.probed.ensures.rows kept.lawful
