-- The dead set of the relaxed detector, as it is worked out: facts are listed until the moves add none.
use Rattle.std.specs.Prelude.{ℕ, zero, suc, ◌-◌, Bool, cond, not, ◌&&◌, List, length, replicate, fold}
use Rattle.first_come.specs.Arrivals.{Kept, kept, arrived, keep_all}
use Rattle.model.specs.declared.row.Row.{Row}
use Rattle.model.specs.declared.moves.Move.{Move}
use Rattle.model.specs.Records.{ModelRecord, row_of_model}
use Rattle.detectors.specs.declared.relaxed.fact.Fact.{Fact}
use Rattle.detectors.specs.Facts.{fact_of, same_fact, row_facts, given_facts, all_reached}

-- a move adds its effect facts if its condition facts are all there
abbrev pub try_move : Kept Fact → Move → Kept Fact
try_move k m = cond (all_reached (arrived k) m.conditions) (keep_all same_fact k (given_facts m.effects)) k

-- each move is tried once, in order
abbrev pub round : Kept Fact → List Move → Kept Fact
round k ms = fold try_move k ms

-- n rounds
abbrev pub rounds : ℕ → Kept Fact → List Move → Kept Fact
rounds zero k ms = k
rounds (suc n) k ms = rounds n (round k ms) ms

-- as many rounds as there are places left: then no round adds a fact
abbrev pub closure : Kept Fact → List Move → Kept Fact
closure k ms = rounds (length k.places - k.len) k ms

-- no fact, in 512 places: a model has no more facts
abbrev pub no_facts : Kept Fact
no_facts = kept (replicate 512 (fact_of 0 0)) 0

-- the facts that a row begins with
unfoldable pub first_facts : ModelRecord → Row → Kept Fact
first_facts d row = keep_all same_fact no_facts (row_facts d.variables row)

-- some goal fact is not reached
unfoldable pub goal_missed : ModelRecord → Row → Bool
goal_missed d row = not (all_reached (arrived (closure (first_facts d row) d.moves)) d.goal)

-- the dead rows: rows of the model from which some goal fact is not reached
abbrev pub relaxed_dead : ModelRecord → Row → Bool
relaxed_dead d row = row_of_model d row && goal_missed d row
