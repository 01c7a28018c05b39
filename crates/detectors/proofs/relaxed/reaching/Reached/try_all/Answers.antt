use Rattle.std.proofs.Common.{◌≡◌, ◌+◌, drop, get_or, sym, ap, ◌∙◌, rules, arith}
use Rattle.std.proofs.lemmas.List.{at_drop_more, length-set}
use Rattle.detectors.specs.Closure.{try_move, round}
use Rattle.detectors.specs.ReachedList.{facts}
use Rattle.detectors.proofs.KnownMoves.{each_on}
use Rattle.detectors.proofs.relaxed.reaching.Reached.try_all.Goals as goal

pub loop-index-preserved : goal.loop-index-preserved
loop-index-preserved c =
    let l = c.loop-index in
    let ms = c.args.moves.now in
    let m = c.index-moves-index.result in
    let k = facts l.self in
    let tried = c.try_move.ensures in
    let here : m ≡ get_or ms l.index m = search rules in (
      ap (λ n. round n (drop (l.index + 1) ms)) tried.facts
          ∙ ap (λ o. round (try_move k o) (drop (l.index + 1) ms)) here
          ∙ sym (at_drop_more (round k) ms l.index m c.loop-index-test.true)
          ∙ l.invariant.0,
      length-set l.known l.index c.try_move.result ∙ l.invariant.1,
      each_on k _ ms l.known l.index m c.try_move.result c.loop-index-test.true (omega (arith, c.requires.long, l.invariant.1)) here l.invariant.2 tried.facts tried.known,
    )
