use Rattle.std.proofs.Common.{◌≡◌, ◌∙◌, sym, subst, true, List}
use Rattle.std.specs.List.{list_all}
use Rattle.model.specs.declared.row.Row.{Row}
use Rattle.model.specs.Records.{row_of_model}
use Rattle.model.specs.Rows.{same_row}
use Rattle.first_come.specs.Arrivals.{Distinct}
use Rattle.rules.specs.Rules.{keeps_rules}
use Rattle.book.proofs.Orders.{offer_stopped, offer_leaves, offer_answers, offer_adds, offer_keeps_fit, offer_keeps_once, offer_keeps_rules}
use Rattle.book.proofs.book.Book.add_offered.Goals as goal

pub returns-in-Err-clause-answer : goal.returns-in-Err-clause-answer
returns-in-Err-clause-answer g c =
    let book = c.args.self.now in
    offer_stopped (g.D.Detector.carried book.detector) (g.D.Detector.dead book.detector) book.rows.items c.args.list.now c.in-Err.refused (sym c.check_offer.ensures ∙ c.in-Err.is)

pub returns-in-Err-clause-rows : goal.returns-in-Err-clause-rows
returns-in-Err-clause-rows g c =
    let book = c.args.self.now in
    offer_leaves (g.D.Detector.carried book.detector) (g.D.Detector.dead book.detector) book.rows.items c.args.list.now c.in-Err.refused (sym c.check_offer.ensures ∙ c.in-Err.is)

pub invariant_of-self : goal.invariant_of-self
invariant_of-self g c =
    let book = c.args.self.now in
    let d = g.D.Detector.carried book.detector in
    let dead = g.D.Detector.dead book.detector in
    let rows = book.rows.items in
    let list = c.args.list.now in
    let sealed = g.met.D.Detector.sealed book.detector in
    let after = c.add_fresh.ensures.after ∙ offer_adds d dead rows list (sym c.check_offer.ensures ∙ c.in_default.is) in
    record {
      few = c.add_fresh.ensures.few;
      room = c.add_fresh.ensures.room;
      fit = subst (λ (l : List Row). list_all (row_of_model d) l ≡ true) (sym after) (offer_keeps_fit d dead rows list sealed book.fit book.rules);
      once = subst (λ (l : List Row). Distinct same_row l) (sym after) (offer_keeps_once d dead rows list sealed book.once);
      rules = subst (λ (l : List Row). keeps_rules d dead l ≡ true) (sym after) (offer_keeps_rules d dead rows list sealed book.fit book.rules);
    }

pub returns-clause-answer : goal.returns-clause-answer
returns-clause-answer g c =
    let book = c.args.self.now in
    c.add_fresh.ensures.answer ∙ offer_answers (g.D.Detector.carried book.detector) (g.D.Detector.dead book.detector) book.rows.items c.args.list.now (sym c.check_offer.ensures ∙ c.in_default.is)

pub returns-clause-rows : goal.returns-clause-rows
returns-clause-rows g c =
    let book = c.args.self.now in
    c.add_fresh.ensures.after ∙ offer_adds (g.D.Detector.carried book.detector) (g.D.Detector.dead book.detector) book.rows.items c.args.list.now (sym c.check_offer.ensures ∙ c.in_default.is)
