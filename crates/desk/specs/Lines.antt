-- The lines that the program prints, and their bytes.
use Rattle.std.specs.Prelude.{ℕ, Bool, true, false, ◌/◌, ◌%◌, List, [], ◌∷◌, ◌++◌, length, Some, None, Option, codes, decimal}
use Rattle.std.specs.Char.{digit_char}
use Rattle.std.specs.List.{flat_map}
use Rattle.refusal.specs.Numbers.{refusal_number}
use Rattle.model.specs.Records.{ModelRecord}
use Rattle.detector.specs.Verdicts.{says_dead}
use Rattle.book.specs.declared.refused.Refused as order
use Rattle.desk.specs.declared.lines.Line.{Line}
use Rattle.desk.specs.declared.lines.Line.TheVariants.{Model, Judge, ProbeDead, ProbePlan, Offer, Settle, Write, Refused, Stop, End}
use Rattle.desk.specs.declared.opening.Stop as opening

-- what a line tells; the moves of a plan and the bytes of the book are lists here, while a `Line` borrows them
pub data Said : Type 0 where
  model : ℕ → ℕ → Said
  judge : Bool → Said
  probe_dead : ℕ → ℕ → ℕ → Said
  probe_plan : ℕ → ℕ → List ℕ → Said
  offer : ℕ → Said
  settle : ℕ → ℕ → Said
  write : List ℕ → Said
  refused : ℕ → Option ℕ → Option ℕ → Said
  stop : ℕ → ℕ → Said
  end : Said

abbrev pub line_told : Line → Said
line_told (Model variables moves) = model variables moves
line_told (Judge verdict) = judge (says_dead verdict)
line_told (ProbeDead states rows entries) = probe_dead states rows entries
line_told (ProbePlan states length moves) = probe_plan states length moves.now
line_told (Offer added) = offer added
line_told (Settle added rounds) = settle added rounds
line_told (Write bytes) = write bytes.now
line_told (Refused number row step) = refused number row step
line_told (Stop number place) = stop number place
line_told End = end

abbrev pub model_line : ModelRecord → Said
model_line d = model (length d.variables) (length d.moves)

-- an order that is refused, by the number of its refusal
abbrev pub refused_line : order.Refused → Said
refused_line r = refused (refusal_number r.refusal) r.row r.step

abbrev pub stop_line : opening.Stop → Said
stop_line s = stop (refusal_number s.refusal) s.place

-- a byte as a space and two hexadecimal digits
abbrev pub hex_byte : ℕ → List ℕ
hex_byte b = codes " " ++ digit_char (b / 16) ∷ digit_char (b % 16) ∷ []

-- a move as a space and its number
abbrev pub move_bytes : ℕ → List ℕ
move_bytes m = codes " " ++ decimal m

-- a part of a refusal, which may not be told
abbrev pub part_bytes : Option ℕ → List ℕ
part_bytes (Some n) = decimal n
part_bytes None = codes "-"

-- a line without its end
abbrev pub line_bytes : Said → List ℕ
line_bytes (model variables moves) = codes "model " ++ (decimal variables ++ (codes " " ++ decimal moves))
line_bytes (judge true) = codes "judge dead"
line_bytes (judge false) = codes "judge silent"
line_bytes (probe_dead states rows entries) = codes "probe dead " ++ (decimal states ++ (codes " " ++ (decimal rows ++ (codes " " ++ decimal entries))))
line_bytes (probe_plan states length moves) = codes "probe plan " ++ (decimal states ++ (codes " " ++ (decimal length ++ flat_map move_bytes moves)))
line_bytes (offer added) = codes "offer " ++ decimal added
line_bytes (settle added rounds) = codes "settle " ++ (decimal added ++ (codes " " ++ decimal rounds))
line_bytes (write bytes) = codes "write" ++ flat_map hex_byte bytes
line_bytes (refused number row step) = codes "refused " ++ (decimal number ++ (codes " " ++ (part_bytes row ++ (codes " " ++ part_bytes step))))
line_bytes (stop number place) = codes "stop " ++ (decimal number ++ (codes " " ++ decimal place))
line_bytes end = codes "end"

-- lines, each with its end
abbrev pub printed : List Said → List ℕ
printed [] = []
printed (l ∷ ls) = line_bytes l ++ 10 ∷ printed ls
