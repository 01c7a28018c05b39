use Rattle.std.proofs.Common.{length, replicate, refl, ap, ◌∙◌, rules, arith}
use Rattle.detectors.specs.Closure.{closure}
use Rattle.detectors.specs.ReachedList.{facts}
use Rattle.detectors.proofs.Rounds.{grows_round, closure_on}
use Rattle.detectors.proofs.KnownMoves.{each_none}
use Rattle.detectors.proofs.relaxed.reaching.Reached.saturate.Goals as goal

pub loop-known-smaller : goal.loop-known-smaller
loop-known-smaller c =
    let k = facts c.loop-known.self in
    let tried = c.try_all.ensures.facts in
    let grows = grows_round k c.args.moves.now in
    omega (arith, grows.more, grows.long, ap (λ n. n.len) tried, ap (λ n. length n.places) tried, c.try_all.new.self.facts.list.fits)

pub loop-known-init : goal.loop-known-init
loop-known-init c = (refl, search rules, each_none _ _ (replicate 128 0) refl)

pub loop-known-preserved : goal.loop-known-preserved
loop-known-preserved c =
    let k = facts c.loop-known.self in
    let tried = c.try_all.ensures in (
      ap (λ n. closure n c.args.moves.now) tried.facts ∙ closure_on c.args.moves.now k c.loop-known.self.facts.list.fits ∙ c.loop-known.invariant.0,
      tried.long ∙ c.loop-known.invariant.1,
      tried.known,
    )
