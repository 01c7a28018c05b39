use Rattle.std.proofs.Common.{◌≡◌, ◌≤◌, length, vec_items, vec_len, vec_capacity}
use Rattle.book.specs.Books.{book_rows, book_detector}
use Rattle.orders.proofs.RunSteps.{RunTo}
use Rattle.orders.proofs.running.run_all.Given as goal

-- the orders before the one whose turn it is are run, and there is room for an answer to each
abbrev pub invariant-loop-order : goal.invariant-loop-order
invariant-loop-order g l =
    RunTo (g.D.Detector.carried l.fn.detector) (g.D.Detector.dead l.fn.detector) l.initial.orders l.order-index (book_rows l.book) (vec_items l.answers) l.orders
    × (book_detector l.book ≡ l.fn.detector)
    × (vec_len l.answers ≡ l.order-index)
    × (length l.orders ≤ vec_capacity l.answers)
