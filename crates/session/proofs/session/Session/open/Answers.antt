use Rattle.std.proofs.Common.{◌∙◌, ap, replicate}
use Rattle.walk.specs.Walks.{first}
use Rattle.session.specs.Turns.{lent, fresh_lent}
use Rattle.session.proofs.session.Session.open.Goals as goal

pub returns-clause-lent : goal.returns-clause-lent
unfolding fresh_lent
returns-clause-lent g c =
    let places = c.in_ok-vec.ensures.items_if_clones_equal (λ y same. same) ∙ ap (λ r. replicate 256 (first r)) c.open.ensures in
    let moves = c.in_ok-vec-2.ensures.items_if_clones_equal (λ y same. same) in
    let bytes = c.in_ok-vec-3.ensures.items_if_clones_equal (λ y same. same) in
    λ i. lent (places i) (moves i) (bytes i)
