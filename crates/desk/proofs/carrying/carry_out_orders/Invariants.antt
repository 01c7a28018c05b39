use Rattle.std.proofs.Common.{◌≡◌, ◌-◌, length}
use Rattle.sheet.specs.Commands.{commands_from}
use Rattle.session.specs.Sessions.{detector_of, state_of}
use Rattle.desk.specs.Carrying.{order_lines}
use Rattle.desk.proofs.OrderRun.{Printing}
use Rattle.desk.proofs.carrying.carry_out_orders.Given as goal

-- the lines of the commands that are left are what is left to print
abbrev pub invariant-loop-found : goal.invariant-loop-found
invariant-loop-found g l =
    let lines = order_lines (g.D.Detector.carried (detector_of l.fn.session)) (g.D.Detector.dead (detector_of l.fn.session)) (length l.sheet) in
    record {
      printing : Printing (g.W.Write.contents l.fn.out) (g.W.Write.contents l.out) (lines (state_of l.session) (commands_from l.sheet l.place)) (lines (state_of l.fn.session) (commands_from l.sheet l.fn.orders));
      over : detector_of l.session ≡ detector_of l.fn.session;
    }

abbrev pub decreases-loop-found : goal.decreases-loop-found
decreases-loop-found g l = length l.sheet - l.place
