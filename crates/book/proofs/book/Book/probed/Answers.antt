use Rattle.std.proofs.Common.{◌≡◌, ap, subst, sym, Ok, ◌∙◌, true}
use Rattle.std.specs.Result.{result_and}
use Rattle.model.specs.declared.row.Row.{Row}
use Rattle.model.specs.Records.{ModelRecord, state_of_model}
use Rattle.book.specs.Probes.{state_checked}
use Rattle.book.proofs.ProbeSteps.{taken_state}
use Rattle.book.proofs.book.Book.probed.Goals as goal

pub walk_and_learn-requires : goal.walk_and_learn-requires
walk_and_learn-requires g c =
    let d = g.D.Detector.carried c.args.self.now.detector in
    let t = c.args.state.now in
    let taken = taken_state d t c.in-Ok.state (c.in-Ok.ensures ∙ ap (λ (e : ModelRecord). result_and (state_checked e.variables t) (Ok t)) c.model.ensures) in
    subst (λ (s : Row). state_of_model d s ≡ true) (sym taken.0) taken.1
