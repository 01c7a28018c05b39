use Rattle.learning.proofs.TableFacts.{nothing_known}
use Rattle.learning.proofs.parts.learn_few.Goals as goal

pub learn_front-entries-requires-clause-new : goal.learn_front-entries-requires-clause-new
learn_front-entries-requires-clause-new g c = nothing_known c.unknown-table.result c.unknown-table.ensures
