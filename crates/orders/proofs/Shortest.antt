-- A plan that a probe is answered with is a shortest plan for its state.
use Rattle.std.proofs.Common.{◌≡◌, ℕ, Bool, List, [], Ok, Err, Result, refl}
use Rattle.refusal.specs.declared.Refusal.{Refusal}
use Rattle.model.specs.declared.row.Row.{Row}
use Rattle.model.specs.Records.{ModelRecord, Sealed}
use Rattle.detector.specs.Laws.{Lawful}
use Rattle.book.specs.Probes as probes
use Rattle.book.proofs.ProbeRight.{probe_is_right}
use Rattle.orders.specs.Orders.{Brought, probe, has_plan}
use Rattle.orders.specs.Runs.{told_by, probe_told, answer, left_of, left_run, answers_run}
use Rattle.orders.specs.WholeRuns.{rows_before, PlansAreShortest}
use Rattle.orders.proofs.Kept.{lawful_at}
use Rattle.orders.proofs.Runs.{told_at, left_so}

-- a probe that is answered with a plan told one
planned_told : (told : Result probes.ProbeTold Refusal) (states n : ℕ) → told_by probe_told told ≡ has_plan states n → told ≡ Ok (probes.has_plan states n)
planned_told (Ok (probes.called_dead s r e)) states n is = absurd (cc)
planned_told (Ok (probes.has_plan s m)) states n is = let same_states : s ≡ states = cc in let same_length : m ≡ n = cc in rw (same_states, same_length) refl
planned_told (Err why) states n is = absurd (cc)

module _ (d : ModelRecord) (gone : Row → Bool) (sealed : Sealed d) (laws : Lawful d gone) (orders : List Brought) where
  pub plans_are_shortest : PlansAreShortest d orders (left_run d gone [] orders) (answers_run d gone [] orders)
  unfolding answer left_of
  plans_are_shortest i state work_list plan order states n answered =
      let rows = rows_before d gone orders i in
      let told = planned_told (probes.probe_answer d gone rows state work_list plan) states n (told_at d gone orders i (probe state work_list plan) order (has_plan states n) answered) in
      let right = probe_is_right d gone rows state sealed (lawful_at d gone sealed laws orders i) work_list plan in (
        probes.probe_work_list d gone rows state work_list,
        probes.probe_plan d gone rows state work_list plan,
        left_so d gone orders i (probe state work_list plan) order,
        (right.moves_are_a_shortest_plan states n told).0,
        (right.moves_are_a_shortest_plan states n told).1,
      )
