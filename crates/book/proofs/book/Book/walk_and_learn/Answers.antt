use Rattle.std.proofs.Common.{◌≡◌, ◌∙◌, ◌≤◌, ◌++◌, sym, ap, subst, true, List, length, take}
use Rattle.std.specs.List.{list_all}
use Rattle.model.specs.Records.{row_of_model}
use Rattle.walk.specs.declared.walked.Walked.{Walked}
use Rattle.walk.specs.Answers.{states_of}
use Rattle.rules.specs.Rules.{keeps_rules}
use Rattle.book.specs.Probes.{walk_of}
use Rattle.book.proofs.ProbeLaws.{listed_fit, listed_keep_the_rules, listed_few}
use Rattle.book.proofs.ProbeSteps.{all_were_taken}
use Rattle.book.proofs.book.Book.walk_and_learn.Goals as goal
use Rattle.lists.proofs.Fronts.{front_over}

pub learn_listed-requires-clause-few : goal.learn_listed-requires-clause-few
unfolding walk_of
learn_listed-requires-clause-few g c =
    let book = c.args.self.now in
    let d = g.D.Detector.carried book.detector in
    let gone = g.D.Detector.dead book.detector in
    let rows = book.rows.items in
    let work_list = c.args.work_list.now in
    let w = walk_of d gone rows c.args.state.now work_list in
    let ends = all_were_taken d gone rows (length c.args.plan.now) w.listed w.outcome c.in-Ok-NoPlan.states (rw c.in-Ok-NoPlan.field-0-is at c.in-Ok-NoPlan.ensures.answer) in
    let front : take c.in-Ok-NoPlan.states c.walk.new.work_list ≡ w.listed = ap (λ (l : List Walked). take c.in-Ok-NoPlan.states l) c.walk.ensures.listed ∙ front_over w.listed work_list c.in-Ok-NoPlan.states ends.1 in
    let sealed = g.met.D.Detector.sealed book.detector in
    subst (λ (l : List Walked). length l ≤ 256) (sym front) (listed_few d gone sealed rows book.rules c.args.state.now c.requires work_list ends.0)

pub learn_listed-requires-clause-fit : goal.learn_listed-requires-clause-fit
unfolding walk_of
learn_listed-requires-clause-fit g c =
    let book = c.args.self.now in
    let d = g.D.Detector.carried book.detector in
    let gone = g.D.Detector.dead book.detector in
    let rows = book.rows.items in
    let work_list = c.args.work_list.now in
    let w = walk_of d gone rows c.args.state.now work_list in
    let ends = all_were_taken d gone rows (length c.args.plan.now) w.listed w.outcome c.in-Ok-NoPlan.states (rw c.in-Ok-NoPlan.field-0-is at c.in-Ok-NoPlan.ensures.answer) in
    let front : take c.in-Ok-NoPlan.states c.walk.new.work_list ≡ w.listed = ap (λ (l : List Walked). take c.in-Ok-NoPlan.states l) c.walk.ensures.listed ∙ front_over w.listed work_list c.in-Ok-NoPlan.states ends.1 in
    let sealed = g.met.D.Detector.sealed book.detector in
    subst (λ (l : List Walked). list_all (row_of_model d) (states_of l) ≡ true) (sym front) (listed_fit d gone sealed rows book.rules c.args.state.now c.requires work_list ends.0)

pub learn_listed-requires-clause-rules : goal.learn_listed-requires-clause-rules
unfolding walk_of
learn_listed-requires-clause-rules g c =
    let book = c.args.self.now in
    let d = g.D.Detector.carried book.detector in
    let gone = g.D.Detector.dead book.detector in
    let rows = book.rows.items in
    let work_list = c.args.work_list.now in
    let w = walk_of d gone rows c.args.state.now work_list in
    let ends = all_were_taken d gone rows (length c.args.plan.now) w.listed w.outcome c.in-Ok-NoPlan.states (rw c.in-Ok-NoPlan.field-0-is at c.in-Ok-NoPlan.ensures.answer) in
    let front : take c.in-Ok-NoPlan.states c.walk.new.work_list ≡ w.listed = ap (λ (l : List Walked). take c.in-Ok-NoPlan.states l) c.walk.ensures.listed ∙ front_over w.listed work_list c.in-Ok-NoPlan.states ends.1 in
    let sealed = g.met.D.Detector.sealed book.detector in
    subst (λ (l : List Walked). keeps_rules d gone (rows ++ states_of l) ≡ true) (sym front) (listed_keep_the_rules d gone sealed rows book.rules c.args.state.now c.requires work_list ends.0)
