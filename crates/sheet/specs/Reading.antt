-- What the first command of a sheet says.
use Rattle.std.specs.Prelude.{ℕ, Bool, cond, List, [], ◌∷◌, length, take, drop, Some, None, Option, ◌==◌, nat_le}
use Rattle.sheet.specs.declared.Fault.TheVariants.{Cut, Unknown}
use Rattle.sheet.specs.declared.Command.{Command}
use Rattle.sheet.specs.declared.Command.TheVariants.{Variable, Move, Condition, Effect, Start, Goal, Seal, Detector, Entry, Next, Offer, Settle, Judge, Probe, Write}
use Rattle.sheet.specs.declared.Command.TheVariants as command

-- a command's byte and the values of its operands; or the number of a fault, 1 or 2, which is no command's byte
abbrev pub Told : Type 0
Told = ℕ × List ℕ

abbrev pub told : Command → Told
told (Variable size name) = (0x56, size ∷ name.now)
told (Move name) = (0x41, name.now)
told (Condition variable value) = (0x50, variable ∷ value ∷ [])
told (Effect variable value) = (0x45, variable ∷ value ∷ [])
told (Start variable value) = (0x53, variable ∷ value ∷ [])
told (Goal variable value) = (0x47, variable ∷ value ∷ [])
told Seal = (0x5a, [])
told (Detector kind variables) = (0x44, kind ∷ variables)
told (Entry variable value) = (0x52, variable ∷ value ∷ [])
told Next = (0x4e, [])
told Offer = (0x4f, [])
told Settle = (0x54, [])
told Judge = (0x4a, [])
told Probe = (0x51, [])
told Write = (0x57, [])
told (command.Fault Cut) = (1, [])
told (command.Fault Unknown) = (2, [])

abbrev pub is_fault : Told → Bool
is_fault said = nat_le said.0 2

-- how many bytes of operands the command b has, where there is such a command
abbrev pub width : ℕ → Option ℕ
width b =
    cond (b == 0x56) (Some 9)
    (cond (b == 0x41) (Some 8)
    (cond (b == 0x50) (Some 2)
    (cond (b == 0x45) (Some 2)
    (cond (b == 0x53) (Some 2)
    (cond (b == 0x47) (Some 2)
    (cond (b == 0x5a) (Some 0)
    (cond (b == 0x44) (Some 4)
    (cond (b == 0x52) (Some 2)
    (cond (b == 0x4e) (Some 0)
    (cond (b == 0x4f) (Some 0)
    (cond (b == 0x54) (Some 0)
    (cond (b == 0x4a) (Some 0)
    (cond (b == 0x51) (Some 0)
    (cond (b == 0x57) (Some 0) None))))))))))))))

-- the command b, whose operands are the first bytes of t; a fault leaves all bytes
abbrev pub reading_of : ℕ → List ℕ → Option ℕ → Told × List ℕ
reading_of b t None = ((2, []), b ∷ t)
reading_of b t (Some w) = cond (nat_le w (length t)) ((b, take w t), drop w t) ((1, []), b ∷ t)

-- the first command of the bytes, and what follows it
abbrev pub reading : List ℕ → Told × List ℕ
reading [] = ((1, []), [])
reading (b ∷ t) = reading_of b t (width b)
