use Rattle.std.proofs.Common.{◌≡◌, not, replicate, ap, ◌∙◌, rules}
use Rattle.first_come.specs.Arrivals.{Kept, kept, keep, arrived}
use Rattle.detectors.specs.declared.pattern.cut.Cut.{Cut}
use Rattle.detectors.specs.Cuts.{same_cut}
use Rattle.detectors.specs.CutWalk.{open_cut, walk_from, walked, some_contains, cut_off}
use Rattle.detectors.proofs.pattern.walking.is_cut_off.Goals as goal

pub returns : goal.returns
unfolding cut_off walked
returns c =
    let ms = c.args.moves.now in
    let first = c.args.first in
    let blank : Kept Cut = kept (replicate 512 open_cut) 0 in
    let filler : c.default-places.result ≡ open_cut = search rules in
    let empty = c.new.ensures.listed ∙ ap (λ t. kept (replicate 512 t) 0) filler in
    let begun = c.list.ensures.kept ∙ ap (λ k. keep same_cut k first) empty in
    let done = c.go_on.ensures ∙ ap (λ k. walk_from 512 0 k ms) begun in
    ap not (c.contains.ensures ∙ ap (λ k. some_contains c.args.goal.now (arrived k)) done)
