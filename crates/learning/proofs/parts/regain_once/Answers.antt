use Rattle.std.proofs.Common.{◌≡◌, get_or, ap, ◌∙◌, arith}
use Rattle.model.specs.Records.{ModelRecord}
use Rattle.learning.proofs.Growing.{table_regained}
use Rattle.learning.proofs.parts.regain_once.Goals as goal

pub returns-clause-right : goal.returns-clause-right
returns-clause-right g c =
    let d = g.D.Detector.carried c.args.detector.now in
    let moves : c.moves.result.now ≡ d.moves = c.moves.ensures ∙ ap (λ (r : ModelRecord). r.moves) c.model.ensures in
    table_regained d (g.D.Detector.dead c.args.detector.now) c.args.rows.now c.args.parts.now c.first_affected.new.table c.keep_known.new.table c.in-Some.ensures.right
    (get_or c.args.listed.now c.in-Some.place c.index-listed-place.result).state c.index-parts-place.result c.in-Some.place c.in-Some-lowest_missing.variable (omega (arith, c.in-Some.ensures.within)) c.index-parts-place.is
    c.in-Some-lowest_missing.ensures c.with_entry_of.result c.with_entry_of.ensures c.entry.result c.entry.ensures c.moves.result.now moves c.keep_known.ensures
