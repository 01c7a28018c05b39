use Rattle.std.proofs.Common.{ap, ◌∙◌}
use Rattle.model.specs.declared.in_hand.End.TheVariants.{Start, Goal}
use Rattle.model.specs.Writing.{with_end}
use Rattle.model.specs.Drafts.{ended}
use Rattle.model.proofs.StepFacts.{end_step}
use Rattle.model.proofs.in_hand.WritingEnds.enter_end.Goals as goal

pub returns-in-Start-clause-after : goal.returns-in-Start-clause-after
returns-in-Start-clause-after c = rw c.in-Start.is (ap (with_end Start (ended c.args.self.now)) c.enter.ensures.after ∙ end_step Start _ _ _)

pub returns-in-Goal-clause-after : goal.returns-in-Goal-clause-after
returns-in-Goal-clause-after c = rw c.in-Goal.is (ap (with_end Goal (ended c.args.self.now)) c.enter-in-Goal.ensures.after ∙ end_step Goal _ _ _)
