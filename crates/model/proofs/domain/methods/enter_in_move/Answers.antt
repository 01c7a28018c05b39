use Rattle.model.proofs.domain.methods.enter_in_move.Goals as goal

pub returns-in-Conditions-clause-after : goal.returns-in-Conditions-clause-after
returns-in-Conditions-clause-after c = rw c.in-Conditions.is (cc)

pub returns-in-Effects-clause-after : goal.returns-in-Effects-clause-after
returns-in-Effects-clause-after c = rw c.in-Effects.is (cc)
