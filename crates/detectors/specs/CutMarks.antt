-- The marks of cuts: a table of 17 * 17 * 17 marks has one for every cut that gives values below 16.
use Rattle.std.specs.Prelude.{ℕ, ◌+◌, ◌*◌, cond, ◌&&◌, Some, None, Option, nat_lt}
use Rattle.detectors.specs.declared.pattern.cut.Cut.{Cut}

-- an entry as a digit
abbrev pub digit_of : Option ℕ → ℕ
digit_of None = 0
digit_of (Some v) = v + 1

-- the digits as one number, in base 17
abbrev pub code : Cut → ℕ
code t = (digit_of t.first * 17 + digit_of t.second) * 17 + digit_of t.third

-- none where a digit is not one of base 17
abbrev pub cut_mark : Cut → Option ℕ
cut_mark t = cond (nat_lt (digit_of t.first) 17 && (nat_lt (digit_of t.second) 17 && nat_lt (digit_of t.third) 17)) (Some (code t)) None
