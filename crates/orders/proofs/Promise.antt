-- Every run of orders on a new book over a lawful detector keeps the promise.
use Rattle.orders.specs.WholeRuns.{EveryRunKeepsThePromise}
use Rattle.orders.proofs.Largest.{settled_sets_are_the_largest}
use Rattle.orders.proofs.ReadBack.{written_books_read_back}
use Rattle.orders.proofs.Runs.{as_many_answers}
use Rattle.orders.proofs.Shortest.{plans_are_shortest}
use Rattle.orders.proofs.StaysDead.{dead_stays_dead}

pub every_run_keeps_the_promise : EveryRunKeepsThePromise
unfolding EveryRunKeepsThePromise
every_run_keeps_the_promise d gone sealed laws orders = record {
  each_order_is_answered = as_many_answers d gone orders;
  dead_stays_dead = dead_stays_dead d gone sealed laws orders;
  plans_are_shortest = plans_are_shortest d gone sealed laws orders;
  settled_sets_are_the_largest = settled_sets_are_the_largest d gone sealed orders;
  written_books_read_back = written_books_read_back d gone sealed orders;
}
