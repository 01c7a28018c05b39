use Rattle.std.proofs.Common.{◌≡◌, ◌∙◌, sym, ap, Ok, Err, None}
use Rattle.model.specs.Records.{ModelRecord}
use Rattle.book.specs.declared.refused.Refused.{Refused}
use Rattle.book.specs.Offers.{list_checked}
use Rattle.rules.specs.Rules.{keeps_rule_1}
use Rattle.lists.specs.Searches.{first_failing}
use Rattle.book.proofs.Orders.{leads_out_refused, none_leads_out}
use Rattle.book.proofs.book.Book.check_offer.Goals as goal

pub returns-in-Some-first_leading_out : goal.returns-in-Some-first_leading_out
returns-in-Some-first_leading_out g c =
    let book = c.args.self.now in
    let d = g.D.Detector.carried book.detector in
    let list = c.args.list.now in
    let listed : list_checked d.variables list ≡ Ok tt = ap (λ (e : ModelRecord). list_checked e.variables list) (sym c.model.ensures) ∙ sym c.check_list.ensures ∙ c.in_ok-check_list.was in
    let apart : first_failing (keeps_rule_1 d) 0 list ≡ None = sym c.first_meeting_goal.ensures ∙ c.in_default.is in
    let found = c.in-Some-first_leading_out in
    ap (λ (r : Refused). Err r) c.for_step.ensures ∙ leads_out_refused d (g.D.Detector.dead book.detector) book.rows.items list (g.met.D.Detector.sealed book.detector) listed apart found.row found.step (sym c.first_leading_out.ensures ∙ found.is)

pub returns : goal.returns
returns g c =
    let book = c.args.self.now in
    let d = g.D.Detector.carried book.detector in
    let list = c.args.list.now in
    let listed : list_checked d.variables list ≡ Ok tt = ap (λ (e : ModelRecord). list_checked e.variables list) (sym c.model.ensures) ∙ sym c.check_list.ensures ∙ c.in_ok-check_list.was in
    let apart : first_failing (keeps_rule_1 d) 0 list ≡ None = sym c.first_meeting_goal.ensures ∙ c.in_default.is in
    none_leads_out d (g.D.Detector.dead book.detector) book.rows.items list (g.met.D.Detector.sealed book.detector) listed apart (sym c.first_leading_out.ensures ∙ c.in_default-first_leading_out.is)
