-- What a model in hand stands for, at any step of it.
use Rattle.std.specs.declared.ops.ControlFlow.{ControlFlow}
use Rattle.std.specs.declared.ops.ControlFlow.TheVariants.{Continue, Break}
use Rattle.std.specs.Prelude.{Ok, Err, Result}
use Rattle.refusal.specs.declared.Refusal.{Refusal}
use Rattle.model.specs.declared.sealed.Model.{Model}
use Rattle.model.specs.Records.{ModelRecord}
use Rattle.model.specs.Drafts.{named, written, ended, recorded}
use Rattle.desk.specs.declared.stage.Stage.{Stage}
use Rattle.desk.specs.declared.stage.Stage.TheVariants.{Variables, Moves, Ends}
use Rattle.desk.specs.Steps.{Phase, naming, writing, ending, Turned, goes, seals, refuses}

abbrev pub phase_of : Stage → Phase
phase_of (Variables n) = naming
phase_of (Moves m) = writing
phase_of (Ends e) = ending

abbrev pub record_so_far : Stage → ModelRecord
record_so_far (Variables n) = named n
record_so_far (Moves m) = written m
record_so_far (Ends e) = ended e

abbrev pub stage_told : Result Stage Refusal → Turned
stage_told (Ok s) = goes (phase_of s) (record_so_far s)
stage_told (Err r) = refuses r

abbrev pub seal_told : Result Model Refusal → Turned
seal_told (Ok m) = seals (recorded m)
seal_told (Err r) = refuses r

abbrev pub turn_told : Result (ControlFlow Model Stage) Refusal → Turned
turn_told (Ok (Continue s)) = goes (phase_of s) (record_so_far s)
turn_told (Ok (Break m)) = seals (recorded m)
turn_told (Err r) = refuses r
