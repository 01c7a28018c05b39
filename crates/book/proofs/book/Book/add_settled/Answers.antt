use Rattle.std.proofs.Common.{◌≡◌, ◌∙◌, sym, ap, subst, true, List, Ok}
use Rattle.std.specs.List.{list_all}
use Rattle.model.specs.declared.row.Row.{Row}
use Rattle.model.specs.Records.{ModelRecord, row_of_model}
use Rattle.model.specs.Rows.{same_row}
use Rattle.first_come.specs.Arrivals.{Distinct}
use Rattle.book.specs.Offers.{list_checked}
use Rattle.rules.specs.Rules.{keeps_rules}
use Rattle.book.specs.Settles.{left_unmarked}
use Rattle.book.proofs.Orders.{left_are_unmarked, rounds_are_counted, settle_stopped, settle_leaves, settle_answers, settle_full, settle_adds, settle_keeps_fit, settle_keeps_once, settle_keeps_the_rules}
use Rattle.book.proofs.book.Book.add_settled.Goals as goal

pub returns-in-Err-clause-answer : goal.returns-in-Err-clause-answer
returns-in-Err-clause-answer g c =
    let book = c.args.self.now in
    let d = g.D.Detector.carried book.detector in
    let list = c.args.candidates.now in
    settle_stopped d (g.D.Detector.dead book.detector) book.rows.items list c.in-Err.refused (ap (λ (e : ModelRecord). list_checked e.variables list) (sym c.model.ensures) ∙ sym c.check_list.ensures ∙ c.in-Err.is)

pub returns-in-Err-clause-rows : goal.returns-in-Err-clause-rows
returns-in-Err-clause-rows g c =
    let book = c.args.self.now in
    let d = g.D.Detector.carried book.detector in
    let list = c.args.candidates.now in
    settle_leaves d (g.D.Detector.dead book.detector) book.rows.items list c.in-Err.refused (ap (λ (e : ModelRecord). list_checked e.variables list) (sym c.model.ensures) ∙ sym c.check_list.ensures ∙ c.in-Err.is)

pub invariant_of-self : goal.invariant_of-self
invariant_of-self g c =
    let book = c.args.self.now in
    let d = g.D.Detector.carried book.detector in
    let dead = g.D.Detector.dead book.detector in
    let rows = book.rows.items in
    let list = c.args.candidates.now in
    let left = c.rows.result.now in
    let listed : list_checked d.variables list ≡ Ok tt = ap (λ (e : ModelRecord). list_checked e.variables list) (sym c.model.ensures) ∙ sym c.check_list.ensures ∙ c.in_default.is in
    let settles : left ≡ left_unmarked d dead rows list = left_are_unmarked d dead rows list listed left (c.rows.ensures ∙ c.settle-sifted.ensures.left) in
    let sealed = g.met.D.Detector.sealed book.detector in
    let after = c.add_fresh.ensures.after ∙ settle_adds d dead rows list listed left settles in
    record {
      few = c.add_fresh.ensures.few;
      room = c.add_fresh.ensures.room;
      fit = subst (λ (l : List Row). list_all (row_of_model d) l ≡ true) (sym after) (settle_keeps_fit d dead rows list sealed book.fit book.rules);
      once = subst (λ (l : List Row). Distinct same_row l) (sym after) (settle_keeps_once d dead rows list sealed book.once);
      rules = subst (λ (l : List Row). keeps_rules d dead l ≡ true) (sym after) (settle_keeps_the_rules d dead rows list sealed book.fit book.rules);
    }

pub returns-in-Ok-clause-answer : goal.returns-in-Ok-clause-answer
returns-in-Ok-clause-answer g c =
    let book = c.args.self.now in
    let d = g.D.Detector.carried book.detector in
    let dead = g.D.Detector.dead book.detector in
    let rows = book.rows.items in
    let list = c.args.candidates.now in
    let left = c.rows.result.now in
    let listed : list_checked d.variables list ≡ Ok tt = ap (λ (e : ModelRecord). list_checked e.variables list) (sym c.model.ensures) ∙ sym c.check_list.ensures ∙ c.in_default.is in
    let settles : left ≡ left_unmarked d dead rows list = left_are_unmarked d dead rows list listed left (c.rows.ensures ∙ c.settle-sifted.ensures.left) in
    settle_answers d dead rows list listed left settles c.rounds.result (rounds_are_counted d dead rows list listed c.rounds.result (c.rounds.ensures ∙ c.settle-sifted.ensures.rounds)) c.in-Ok.added (sym c.in-Ok.is ∙ c.add_fresh.ensures.answer)

pub returns-in-Ok-clause-rows : goal.returns-in-Ok-clause-rows
returns-in-Ok-clause-rows g c =
    let book = c.args.self.now in
    let d = g.D.Detector.carried book.detector in
    let dead = g.D.Detector.dead book.detector in
    let rows = book.rows.items in
    let list = c.args.candidates.now in
    let left = c.rows.result.now in
    let listed : list_checked d.variables list ≡ Ok tt = ap (λ (e : ModelRecord). list_checked e.variables list) (sym c.model.ensures) ∙ sym c.check_list.ensures ∙ c.in_default.is in
    let settles : left ≡ left_unmarked d dead rows list = left_are_unmarked d dead rows list listed left (c.rows.ensures ∙ c.settle-sifted.ensures.left) in
    c.add_fresh.ensures.after ∙ settle_adds d dead rows list listed left settles

pub returns-in-Err-add_fresh-clause-answer : goal.returns-in-Err-add_fresh-clause-answer
returns-in-Err-add_fresh-clause-answer g c =
    let book = c.args.self.now in
    let d = g.D.Detector.carried book.detector in
    let dead = g.D.Detector.dead book.detector in
    let rows = book.rows.items in
    let list = c.args.candidates.now in
    let left = c.rows.result.now in
    let listed : list_checked d.variables list ≡ Ok tt = ap (λ (e : ModelRecord). list_checked e.variables list) (sym c.model.ensures) ∙ sym c.check_list.ensures ∙ c.in_default.is in
    let settles : left ≡ left_unmarked d dead rows list = left_are_unmarked d dead rows list listed left (c.rows.ensures ∙ c.settle-sifted.ensures.left) in
    settle_full d dead rows list listed left settles c.in-Err-add_fresh.refused (sym c.in-Err-add_fresh.is ∙ c.add_fresh.ensures.answer)

pub returns-in-Err-add_fresh-clause-rows : goal.returns-in-Err-add_fresh-clause-rows
returns-in-Err-add_fresh-clause-rows g c =
    let book = c.args.self.now in
    let d = g.D.Detector.carried book.detector in
    let dead = g.D.Detector.dead book.detector in
    let rows = book.rows.items in
    let list = c.args.candidates.now in
    let left = c.rows.result.now in
    let listed : list_checked d.variables list ≡ Ok tt = ap (λ (e : ModelRecord). list_checked e.variables list) (sym c.model.ensures) ∙ sym c.check_list.ensures ∙ c.in_default.is in
    let settles : left ≡ left_unmarked d dead rows list = left_are_unmarked d dead rows list listed left (c.rows.ensures ∙ c.settle-sifted.ensures.left) in
    c.add_fresh.ensures.after ∙ settle_adds d dead rows list listed left settles
