-- What is read can be written out again, and what is written out can be read back.
use Rattle.std.specs.Prelude.{◌≡◌, ℕ, ◌+◌, false, List, [], ◌∷◌, ◌++◌, length, Some}
use Rattle.std.specs.List.{flat_map, AllByRecursion}
use Rattle.sheet.specs.Reading.{Told, width, reading, is_fault}
use Rattle.sheet.specs.Commands.{Item, commands}

-- a command written out: its byte, then its operands
abbrev pub written_out : Told → List ℕ
written_out c = c.0 ∷ c.1

-- what is read, written out again and followed by the rest, is the sheet
unfoldable pub ReadingLosesNoByte : Type 0
ReadingLosesNoByte = (sheet : List ℕ) → is_fault (reading sheet).0 ≡ false → written_out (reading sheet).0 ++ (reading sheet).1 ≡ sheet

-- a command with as many operands as its byte asks for
abbrev pub Formed : Told → Type 0
Formed c = width c.0 ≡ Some (length c.1)

-- commands that stand one after another from the place p on
abbrev pub placed_from : ℕ → List Told → List Item
placed_from p [] = []
placed_from p (c ∷ cs) = record { place = p; said = c; next = p + length (written_out c) } ∷ placed_from (p + length (written_out c)) cs

-- commands written out one after another are read back as the same commands
unfoldable pub CommandsWrittenOutReadBack : Type 0
CommandsWrittenOutReadBack = (cs : List Told) → AllByRecursion Formed cs → commands (flat_map written_out cs) ≡ placed_from 0 cs
