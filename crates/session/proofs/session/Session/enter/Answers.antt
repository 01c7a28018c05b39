use Rattle.std.proofs.Common.{◌∙◌, sym, ap}
use Rattle.model.specs.Drafts.{recorded}
use Rattle.hand.specs.Gathering.{gathered, enter_answer, after_entry}
use Rattle.session.specs.Sessions.{state_of, detector_of}
use Rattle.session.proofs.Entering.{entry_done}
use Rattle.session.proofs.session.Session.enter.Goals as goal

pub returns-in-Ok-clause-outcome : goal.returns-in-Ok-clause-outcome
returns-in-Ok-clause-outcome g c =
    let s = c.args.self.now in
    let model = recorded c.model.result.now in
    let i = ap (λ n. after_entry model.variables (gathered s.gathered) n c.args.value) c.from.ensures in
    let a = ap (λ n. enter_answer model.variables (gathered s.gathered) n c.args.value) c.from.ensures in
    entry_done model (g.D.Detector.carried (detector_of s)) c.model.ensures (state_of s) c.args.variable c.args.value (gathered c.enter.new.self) (c.enter.ensures.after ∙ i) (sym c.in-Ok.is ∙ c.enter.ensures.answer ∙ a)
