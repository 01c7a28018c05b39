-- The number of each refusal.
use Rattle.std.specs.Prelude.{ℕ}
use Rattle.refusal.specs.declared.Refusal.{Refusal}
use Rattle.refusal.specs.declared.Refusal.TheVariants.{SheetEnds, UnknownCommand, OutOfTurn, TooMany, SizeOutOfRange, NoSuchVariable, ValueTooLarge, EntryTwice, StartIncomplete, UnknownKind, WrongOperands, MeetsGoal, LeadsOut, BookFull, OpenEntry, WorkListFull, BufferTooShort}

abbrev pub refusal_number : Refusal → ℕ
refusal_number SheetEnds = 1
refusal_number UnknownCommand = 2
refusal_number OutOfTurn = 3
refusal_number TooMany = 4
refusal_number SizeOutOfRange = 5
refusal_number NoSuchVariable = 6
refusal_number ValueTooLarge = 7
refusal_number EntryTwice = 8
refusal_number StartIncomplete = 9
refusal_number UnknownKind = 10
refusal_number WrongOperands = 11
refusal_number MeetsGoal = 12
refusal_number LeadsOut = 13
refusal_number BookFull = 14
refusal_number OpenEntry = 15
refusal_number WorkListFull = 16
refusal_number BufferTooShort = 17
