use Rattle.std.proofs.Common.{◌≡◌, ◌∙◌, sym, subst, true, List}
use Rattle.std.specs.List.{list_all}
use Rattle.model.specs.declared.row.Row.{Row}
use Rattle.model.specs.Records.{row_of_model}
use Rattle.model.specs.Rows.{same_row}
use Rattle.first_come.specs.Arrivals.{Distinct}
use Rattle.walk.specs.Answers.{states_of}
use Rattle.rules.specs.Rules.{keeps_rules}
use Rattle.learning.proofs.LearnLaws.{learned_fit}
use Rattle.book.proofs.ProbeLaws.{learning_keeps_fit, learning_keeps_once, learning_keeps_rules, parts_keep_the_rules}
use Rattle.book.proofs.ProbeSteps.{all_are_learned, all_are_counted, parts_are_told, full_book_is_told, parts_are_added}
use Rattle.book.proofs.book.Book.learn_listed.Goals as goal

pub returns-in-Ok-clause-answer : goal.returns-in-Ok-clause-answer
returns-in-Ok-clause-answer g c =
    let book = c.args.self.now in
    let d = g.D.Detector.carried book.detector in
    let gone = g.D.Detector.dead book.detector in
    let rows = book.rows.items in
    let listed = c.args.listed.now in
    let parts = all_are_learned d gone rows c.as_slice.result.now c.as_slice.ensures.value listed c.requires.few c.parts.result.now (c.parts.ensures ∙ c.learn-learned.ensures.parts) in
    let entries = all_are_counted d gone rows c.as_slice.result.now c.as_slice.ensures.value listed c.requires.few c.entries.result (c.entries.ensures ∙ c.learn-learned.ensures.entries) in
    parts_are_told d gone rows listed c.parts.result.now parts c.in-Ok.rows c.entries.result (sym c.in-Ok.is ∙ c.add_fresh.ensures.answer) entries

pub returns-in-Ok-clause-rows : goal.returns-in-Ok-clause-rows
returns-in-Ok-clause-rows g c =
    let book = c.args.self.now in
    let d = g.D.Detector.carried book.detector in
    let gone = g.D.Detector.dead book.detector in
    let rows = book.rows.items in
    let listed = c.args.listed.now in
    let parts = all_are_learned d gone rows c.as_slice.result.now c.as_slice.ensures.value listed c.requires.few c.parts.result.now (c.parts.ensures ∙ c.learn-learned.ensures.parts) in
    c.add_fresh.ensures.after ∙ parts_are_added d gone rows listed c.parts.result.now parts

pub returns-in-Err-clause-answer : goal.returns-in-Err-clause-answer
returns-in-Err-clause-answer g c =
    let book = c.args.self.now in
    let d = g.D.Detector.carried book.detector in
    let gone = g.D.Detector.dead book.detector in
    let rows = book.rows.items in
    let listed = c.args.listed.now in
    let parts = all_are_learned d gone rows c.as_slice.result.now c.as_slice.ensures.value listed c.requires.few c.parts.result.now (c.parts.ensures ∙ c.learn-learned.ensures.parts) in
    full_book_is_told d gone rows listed c.parts.result.now parts c.in-Err.refused (sym c.in-Err.is ∙ c.add_fresh.ensures.answer)

pub returns-in-Err-clause-rows : goal.returns-in-Err-clause-rows
returns-in-Err-clause-rows g c =
    let book = c.args.self.now in
    let d = g.D.Detector.carried book.detector in
    let gone = g.D.Detector.dead book.detector in
    let rows = book.rows.items in
    let listed = c.args.listed.now in
    let parts = all_are_learned d gone rows c.as_slice.result.now c.as_slice.ensures.value listed c.requires.few c.parts.result.now (c.parts.ensures ∙ c.learn-learned.ensures.parts) in
    c.add_fresh.ensures.after ∙ parts_are_added d gone rows listed c.parts.result.now parts

pub invariant_of-self : goal.invariant_of-self
invariant_of-self g c =
    let book = c.args.self.now in
    let d = g.D.Detector.carried book.detector in
    let gone = g.D.Detector.dead book.detector in
    let rows = book.rows.items in
    let listed = c.args.listed.now in
    let parts = all_are_learned d gone rows c.as_slice.result.now c.as_slice.ensures.value listed c.requires.few c.parts.result.now (c.parts.ensures ∙ c.learn-learned.ensures.parts) in
    let parts_fit = learned_fit d gone rows (states_of listed) c.requires.fit in
    let both = parts_keep_the_rules c.learn-learned.ensures.keep_the_rules d gone rows (states_of listed) c.requires.rules in
    let sealed = g.met.D.Detector.sealed book.detector in
    let after = c.add_fresh.ensures.after ∙ parts_are_added d gone rows listed c.parts.result.now parts in
    record {
      few = c.add_fresh.ensures.few;
      room = c.add_fresh.ensures.room;
      fit = subst (λ (l : List Row). list_all (row_of_model d) l ≡ true) (sym after) (learning_keeps_fit d gone rows listed sealed parts_fit both book.fit);
      once = subst (λ (l : List Row). Distinct same_row l) (sym after) (learning_keeps_once d gone rows listed book.once);
      rules = subst (λ (l : List Row). keeps_rules d gone l ≡ true) (sym after) (learning_keeps_rules d gone rows listed sealed parts_fit both book.rules);
    }
