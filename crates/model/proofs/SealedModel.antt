-- Every model is sealed: what its type keeps, in the words of its record.
use Rattle.std.proofs.Common.{arith}
use Rattle.std.proofs.lemmas.Bool.{and_from}
use Rattle.model.specs.declared.sealed.Model.{Model}
use Rattle.model.specs.Records.{Sealed}
use Rattle.model.specs.Drafts.{recorded}

pub model_sealed : (m : Model) → Sealed (recorded m)
model_sealed m = record {
  at_most_32_variables = omega (arith, m.domain.few, m.domain.variables.ok.0);
  sizes_from_1_to_16 = m.domain.sized;
  at_most_128_moves = omega (arith, m.domain.moves.few, m.domain.moves.moves.ok.0);
  move_values_below_sizes = m.domain.fit;
  goal_values_below_sizes = m.goals;
  start_is_a_state = and_from _ _ m.starts m.whole;
}
