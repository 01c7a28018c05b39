-- A whole sheet as the list of its commands, each with its place.
use Rattle.std.specs.Prelude.{ℕ, zero, suc, ◌+◌, ◌-◌, cond, List, [], ◌∷◌, length, drop, Some, None, Option, nat_lt}
use Rattle.sheet.specs.declared.Placed.{Placed}
use Rattle.sheet.specs.Reading.{Told, told, reading, is_fault}

-- a command or a fault, the place of its first byte, and the place of what follows it
pub record Item : Type 0 where
  pub place : ℕ
  pub said : Told
  pub next : ℕ

abbrev pub item_of : Placed → Item
item_of r = record { place = r.place; said = told r.command; next = r.next }

-- what stands at the front of the bytes bs, which begin at the place p
abbrev pub item_at : ℕ → List ℕ → Item
item_at p bs = record { place = p; said = (reading bs).0; next = p + (length bs - length (reading bs).1) }

-- what stands at a place of the sheet, where it has not ended
abbrev pub item_found : List ℕ → ℕ → Option Item
item_found sheet p = cond (nat_lt p (length sheet)) (Some (item_at p (drop p sheet))) None

-- the commands of the bytes bs, which begin at the place p: to the end, or up to the first fault; n is at least the number of bytes
unfoldable pub listed : ℕ → ℕ → List ℕ → List Item
listed zero p bs = []
listed (suc n) p [] = []
listed (suc n) p (b ∷ t) = item_at p (b ∷ t) ∷ cond (is_fault (item_at p (b ∷ t)).said) [] (listed n (item_at p (b ∷ t)).next (reading (b ∷ t)).1)

-- the commands of a sheet from a place on
unfoldable pub commands_from : List ℕ → ℕ → List Item
commands_from sheet p = listed (length sheet) p (drop p sheet)

-- the commands of a sheet
abbrev pub commands : List ℕ → List Item
commands sheet = commands_from sheet 0
