use Rattle.std.proofs.Common.{◌∙◌, sym, arith}
use Rattle.sheet.specs.Reading.{told}
use Rattle.hand.specs.ReadBack.{WrittenRowsReadBack}
use Rattle.hand.proofs.ReadBack.{rows_read_back}
use Rattle.session.specs.Sessions.{detector_of, lent_of, state_of}
use Rattle.session.proofs.Alike.{as_fresh}
use Rattle.session.proofs.session.Session.obey.Goals as goal

pub returns-clause-outcome : goal.returns-clause-outcome
returns-clause-outcome g c =
    let s = c.args.self.now in
    c.carry_out.ensures.outcome ∙ as_fresh (g.D.Detector.carried (detector_of s)) (g.D.Detector.dead (detector_of s)) (state_of s) (lent_of s) (told c.args.command) (sym s.work_list.ok.0 ∙ s.places) (sym s.plan.ok.0 ∙ s.moves) (sym s.buffer.ok.0 ∙ s.bytes)

pub returns-clause-reads_back : goal.returns-clause-reads_back
unfolding WrittenRowsReadBack
returns-clause-reads_back g c =
    let book = c.args.self.now.book in
    rows_read_back (g.D.Detector.carried book.detector) book.rows.items book.fit (omega (arith, book.few))
