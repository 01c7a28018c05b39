use Rattle.session.proofs.session.Session.carry_out.Goals as goal

pub returns-in-Entry-clause-outcome : goal.returns-in-Entry-clause-outcome
returns-in-Entry-clause-outcome g c = rw c.in-Entry.is c.enter.ensures.outcome
