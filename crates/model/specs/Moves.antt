-- Moves between rows.
use Rattle.std.specs.Prelude.{ℕ, Bool, not, Some, None, Option}
use Rattle.model.specs.declared.row.Row.{Row}
use Rattle.model.specs.declared.moves.Move.{Move}
use Rattle.model.specs.Rows.{at, row_of, disagree}

-- a move is applicable to a row with which its conditions do not disagree
abbrev pub applicable : Move → Row → Bool
applicable m t = not (disagree m.conditions t)

-- the first entry if it is given, else the second
abbrev pub or_else : Option ℕ → Option ℕ → Option ℕ
or_else None e = e
or_else (Some v) e = Some v

-- the effect if given, else the row's entry if given, else the condition if given, else open
abbrev pub next_entry : Move → Row → ℕ → Option ℕ
next_entry m t i = or_else (at m.effects i) (or_else (at t i) (at m.conditions i))

-- what a move makes of a row
abbrev pub progression : Move → Row → Row
progression m t = row_of (next_entry m t)

-- what a move makes of a state: its effects are written over it
abbrev pub successor : Move → Row → Row
successor m s = row_of (λ i. or_else (at m.effects i) (at s i))
