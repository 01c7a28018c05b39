-- What a pattern carries, and what comes of making one.
use Rattle.std.specs.Prelude.{Ok, Err, Result}
use Rattle.refusal.specs.declared.Refusal.{Refusal}
use Rattle.model.specs.Drafts.{recorded}
use Rattle.model.specs.Records.{ModelRecord}
use Rattle.detector.specs.Laws.{Lawful}
use Rattle.detectors.specs.declared.unmade.Unmade.{Unmade}
use Rattle.detectors.specs.declared.pattern.Pattern.{Pattern}
use Rattle.detectors.specs.declared.pattern.variables.Variables.{Variables}
use Rattle.detectors.specs.PatternMeaning.{pattern_dead, PatternDecides}

abbrev pub pattern_model : Pattern → ModelRecord
pattern_model p = recorded p.model

abbrev pub pattern_variables : Pattern → Variables
pattern_variables p = p.variables

-- the variables of the pattern that is made, or why none is
abbrev pub chosen_or_refused : Result Pattern Unmade → Result Variables Refusal
chosen_or_refused (Ok p) = Ok (pattern_variables p)
chosen_or_refused (Err u) = Err u.refusal

-- the record of the model that the pattern carries, or that is given back
abbrev pub carried_or_back : Result Pattern Unmade → ModelRecord
carried_or_back (Ok p) = pattern_model p
carried_or_back (Err u) = recorded u.model

-- a pattern that is made keeps the two laws
abbrev pub MadeLawful : Result Pattern Unmade → Type 0
MadeLawful (Ok p) = Lawful (pattern_model p) (pattern_dead (pattern_model p) (pattern_variables p))
MadeLawful (Err u) = Unit {0}

-- and its dead set decides what is said of a pattern's rows
abbrev pub MadeDecides : Result Pattern Unmade → Type 0
MadeDecides (Ok p) = PatternDecides (pattern_model p) (pattern_variables p)
MadeDecides (Err u) = Unit {0}
