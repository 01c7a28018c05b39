use Rattle.std.proofs.Common.{List, sym, subst, suc, length}
use Rattle.settling.specs.declared.candidate.Candidate.{Candidate}
use Rattle.settling.specs.Candidates.{unmarked}
use Rattle.settling.proofs.Going.{Going}
use Rattle.settling.proofs.Marks.{last_round_leaves, last_round_counts}
use Rattle.settling.proofs.rounds.make_rounds.Goals as goal

pub returns-then-not-round-clause-left : goal.returns-then-not-round-clause-left
returns-then-not-round-clause-left g c =
    let d = g.B.Detector.carried c.args.book.now in
    let calls = g.B.Detector.dead c.args.book.now in
    let first = c.args.candidates.now in
    let going = subst (λ (cs : List Candidate). Going d calls (suc (length first)) (unmarked first) (unmarked cs) c.rounds.rounds) (sym c.copy_from_slice.ensures.after) c.rounds.invariant.going in
    last_round_leaves d calls c.copy_from_slice.new.self c.round.new.candidates c.round.ensures.after c.round.result c.round.ensures.marks (suc (length first)) (unmarked first) c.rounds.rounds going (cc)

pub returns-then-not-round-clause-rounds : goal.returns-then-not-round-clause-rounds
returns-then-not-round-clause-rounds g c =
    let d = g.B.Detector.carried c.args.book.now in
    let calls = g.B.Detector.dead c.args.book.now in
    let first = c.args.candidates.now in
    let going = subst (λ (cs : List Candidate). Going d calls (suc (length first)) (unmarked first) (unmarked cs) c.rounds.rounds) (sym c.copy_from_slice.ensures.after) c.rounds.invariant.going in
    last_round_counts d calls c.copy_from_slice.new.self c.round.new.candidates c.round.ensures.after c.round.result c.round.ensures.marks (suc (length first)) (unmarked first) c.rounds.rounds going (cc)
