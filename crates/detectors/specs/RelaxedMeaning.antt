-- What a relaxed detector stands for: with its model, the dead set is given too.
use Rattle.model.specs.Drafts.{recorded}
use Rattle.model.specs.Records.{ModelRecord}
use Rattle.detectors.specs.declared.relaxed.Relaxed.{Relaxed}

-- the record of the model that it carries
abbrev pub relaxed_model : Relaxed → ModelRecord
relaxed_model detector = recorded detector.model
