-- The cuts that are listed in a walk.
use Rattle.first_come.specs.Arrivals.{Kept}
use Rattle.first_come.specs.MarkedContents.{marked_contents}
use Rattle.detectors.specs.declared.pattern.cut.Cut.{Cut}
use Rattle.detectors.specs.declared.pattern.walking.Walk.{Walk}

abbrev pub cuts : Walk → Kept Cut
cuts walk = marked_contents walk.cuts
