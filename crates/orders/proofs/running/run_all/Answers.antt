use Rattle.std.proofs.Common.{◌≡◌, ◌∙◌, ◌+◌, List, set, sym, subst, arith}
use Rattle.std.proofs.lemmas.List.{length-set}
use Rattle.orders.specs.declared.answer.Answer.{Answer}
use Rattle.book.specs.Books.{book_rows}
use Rattle.orders.specs.Orders.{brought, answer_told}
use Rattle.orders.specs.Runs.{answer, rows_after, left_of}
use Rattle.orders.proofs.RunSteps.{RunTo, one_more_is_run, all_are_answered, all_are_left}
use Rattle.orders.proofs.running.run_all.Goals as goal

pub loop-order-preserved : goal.loop-order-preserved
loop-order-preserved g c =
    let d = g.D.Detector.carried c.args.detector in
    let gone = g.D.Detector.dead c.args.detector in
    let i = c.loop-order.order-index in
    let rows = book_rows c.loop-order.book in
    let o = c.order-item.result in
    let before = c.loop-order.invariant in
    let read = sym c.order-item.is in
    let told : answer_told c.obey.result ≡ answer d gone rows (brought o) = rw (before.1, read) at c.obey.ensures.answer in
    let grows : book_rows c.obey.new.book ≡ rows_after d gone rows (brought o) = rw (before.1, read) at c.obey.ensures.rows in
    let leaves : brought c.obey.new.order ≡ left_of d gone rows (brought o) = rw (before.1, read) at c.obey.ensures.left in
    let more = one_more_is_run d gone c.args.orders.now i rows c.loop-order.answers.items c.loop-order.orders before.0 o (omega arith) c.order-item.is c.obey.result (book_rows c.obey.new.book) c.obey.new.order told grows leaves in (
      subst (λ (l : List Answer). RunTo d gone c.args.orders.now (i + 1) (book_rows c.obey.new.book) l (set c.loop-order.orders i c.obey.new.order)) (sym c.push_reserved.ensures.items) more,
      c.obey.ensures.over ∙ before.1,
      omega (arith, c.push_reserved.ensures.len, before.2),
      omega (arith, c.push_reserved.ensures.capacity, before.3, length-set c.loop-order.orders i c.obey.new.order),
    )

pub returns-clause-answers : goal.returns-clause-answers
returns-clause-answers g c =
    all_are_answered (g.D.Detector.carried c.args.detector) (g.D.Detector.dead c.args.detector) c.args.orders.now c.loop-order.order-index (book_rows c.loop-order.book) c.loop-order.answers.items c.loop-order.orders c.loop-order.invariant.0 (omega arith)

pub returns-clause-left : goal.returns-clause-left
returns-clause-left g c =
    all_are_left (g.D.Detector.carried c.args.detector) (g.D.Detector.dead c.args.detector) c.args.orders.now c.loop-order.order-index (book_rows c.loop-order.book) c.loop-order.answers.items c.loop-order.orders c.loop-order.invariant.0 (omega arith)
