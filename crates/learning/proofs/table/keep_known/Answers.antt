use Rattle.std.proofs.Common.{arith}
use Rattle.learning.specs.Standings.{TableGrown}
use Rattle.learning.proofs.table.keep_known.Goals as goal

pub returns : goal.returns
unfolding TableGrown
returns c = λ k p within read. c.loop-place.invariant.so_far k p (omega arith) read
