-- The facts that are listed as reached.
use Rattle.first_come.specs.Arrivals.{Kept}
use Rattle.first_come.specs.MarkedContents.{marked_contents}
use Rattle.detectors.specs.declared.relaxed.fact.Fact.{Fact}
use Rattle.detectors.specs.declared.relaxed.reaching.Reached.{Reached}

abbrev pub facts : Reached → Kept Fact
facts reached = marked_contents reached.facts
