use Rattle.std.proofs.Common.{take}
use Rattle.std.specs.List.{flat_map}
use Rattle.std.specs.Fmt.{HasWritten, IsPlainFormatter}
use Rattle.desk.specs.Lines.{move_bytes}
use Rattle.desk.proofs.lines.MovesDisplay.fmt.Given as goal

-- the moves up to the index are written
abbrev pub invariant-loop-step : goal.invariant-loop-step
invariant-loop-step g l = IsPlainFormatter l.initial.f → HasWritten g.W.Write.write_str_gives l.initial.f (flat_map move_bytes (take l.step-index l.step-items)) l.f
