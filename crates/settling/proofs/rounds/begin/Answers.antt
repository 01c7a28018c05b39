use Rattle.std.proofs.Common.{sym, ap, ◌∙◌, map, arith}
use Rattle.std.proofs.lemmas.List.{take_all}
use Rattle.settling.specs.Candidates.{at_start}
use Rattle.settling.proofs.rounds.begin.Goals as goal

pub returns : goal.returns
returns g c =
    let list = c.args.list.now in
    let i = c.loop-place.place in
    sym (take_all i c.loop-place.candidates (omega arith)) ∙ c.loop-place.invariant ∙ ap (map (at_start (g.B.Detector.carried c.args.book.now).goal)) (take_all i list (omega arith))
