-- The worked verdicts, by computing.
use Rattle.std.proofs.Common.{refl}
use Rattle.lists.specs.Below.{all_below}
use Rattle.detectors.specs.Facts.{facts_from}
use Rattle.detectors.specs.Closure.{first_facts, goal_missed}
use Rattle.detectors.specs.CutWalk.{walk_from, walked, cut_off}
use Rattle.detectors.specs.WorkedVerdicts.{WorkedRelaxedVerdicts, WorkedPatternVerdicts}

pub worked_relaxed_verdicts : WorkedRelaxedVerdicts
unfolding all_below facts_from first_facts goal_missed WorkedRelaxedVerdicts
worked_relaxed_verdicts = (refl, refl, refl, refl)

pub worked_pattern_verdicts : WorkedPatternVerdicts
unfolding WorkedPatternVerdicts all_below walk_from walked cut_off
worked_pattern_verdicts = (refl, refl, refl, refl)
