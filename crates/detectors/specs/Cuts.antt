-- Rows and moves cut to the variables of a pattern.
use Rattle.std.specs.Prelude.{ℕ, Bool, not, ◌&&◌, ◌||◌, Some, None, Option}
use Rattle.model.specs.declared.row.Row.{Row}
use Rattle.model.specs.declared.moves.Move.{Move}
use Rattle.model.specs.Rows.{at, keeps, differ, same_entry}
use Rattle.model.specs.Moves.{or_else}
use Rattle.detectors.specs.declared.pattern.cut.Cut.{Cut}
use Rattle.detectors.specs.declared.pattern.cut.CutMove.{CutMove}
use Rattle.detectors.specs.declared.pattern.variables.Variables.{Variables}

-- the row's entry of a variable; open where there is no variable
abbrev pub entry_of : Row → Option ℕ → Option ℕ
entry_of row None = None
entry_of row (Some v) = at row v

-- the row's entries of the variables
abbrev pub cut_of : Variables → Row → Cut
cut_of x row = record { first = at row x.first; second = entry_of row x.second; third = entry_of row x.third }

abbrev pub cut_move : Variables → Move → CutMove
cut_move x m = record { conditions = cut_of x m.conditions; effects = cut_of x m.effects }

-- the cuts have the same entries
abbrev pub same_cut : Cut → Cut → Bool
same_cut s t = same_entry s.first t.first && (same_entry s.second t.second && same_entry s.third t.third)

-- the cut s is contained in the cut t
abbrev pub contained_cut : Cut → Cut → Bool
contained_cut s t = keeps s.first t.first && (keeps s.second t.second && keeps s.third t.third)

-- both cuts give some variable, with different values
abbrev pub disagree_cut : Cut → Cut → Bool
disagree_cut s t = differ s.first t.first || (differ s.second t.second || differ s.third t.third)

abbrev pub applicable_cut : CutMove → Cut → Bool
applicable_cut m t = not (disagree_cut m.conditions t)

-- what a cut move makes of a cut
abbrev pub progression_cut : CutMove → Cut → Cut
progression_cut m t = record {
  first = or_else m.effects.first (or_else t.first m.conditions.first);
  second = or_else m.effects.second (or_else t.second m.conditions.second);
  third = or_else m.effects.third (or_else t.third m.conditions.third);
}
