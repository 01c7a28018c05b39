-- How a sheet opens, by its bytes.
use Rattle.std.specs.Prelude.{ℕ, cond, List, length, Ok, Err, Result, nat_lt}
use Rattle.refusal.specs.declared.Refusal.TheVariants.{TooMany}
use Rattle.sheet.specs.Commands.{commands}
use Rattle.model.specs.Records.{ModelRecord, blank}
use Rattle.desk.specs.declared.opening.Stop.{Stop}
use Rattle.desk.specs.Steps.{naming}
use Rattle.desk.specs.ModelPart.{ModelEnd, stopped, sealed, model_part}
use Rattle.detectors.specs.Choosing.{Chosen}
use Rattle.desk.specs.DetectorPart.{detector_part}

pub data Opened : Type 0 where
  -- refused before the model is sealed
  unsealed : Stop → Opened
  -- refused behind the sealed model, before a detector is made
  unchosen : ModelRecord → Stop → Opened
  -- the detector is chosen; what follows it stands at a place
  orders : ModelRecord → Chosen → ℕ → Opened

-- behind the model d the detector is chosen or refused
abbrev pub behind_model : ModelRecord → Result (Chosen × ℕ) Stop → Opened
behind_model d (Ok c) = orders d c.0 c.1
behind_model d (Err stop) = unchosen d stop

abbrev pub opened_by : ℕ → ModelEnd → Opened
opened_by end (stopped stop) = unsealed stop
opened_by end (sealed d items) = behind_model d (detector_part end d.variables items)

-- a sheet above 65,536 bytes is refused before all else
unfoldable pub opening : List ℕ → Opened
opening sheet =
    cond (nat_lt 65536 (length sheet)) (unsealed (record { refusal = TooMany; place = 65536 }))
    (opened_by (length sheet) (model_part (length sheet) naming blank (commands sheet)))
