-- Items are written one after another.
use Rattle.std.proofs.Common.{ℕ, ◌+◌, ◌<◌, List, [], length, take, get_or, ap, ◌∙◌, sym}
use Rattle.std.proofs.Output.{has_written_append, has_written_of_eq}
use Rattle.std.proofs.lemmas.List.{take_more, flat_map_more}
use Rattle.std.specs.Fmt.{HasWritten}
use Rattle.std.specs.declared.fmt.Formatter.{Formatter}
use Rattle.std.specs.List.{flat_map}
use Rattle.desk.specs.Lines.{hex_byte, move_bytes}

module _ {W : Type 0} (took : W → List ℕ → W → Type 0) (items : List ℕ) (i : ℕ) (f g h : Formatter W) (within : i < length items) where
  one_more : (written : ℕ → List ℕ) → HasWritten took f (flat_map written (take i items)) g → HasWritten took g (written (get_or items i 0)) h → HasWritten took f (flat_map written (take (i + 1) items)) h
  one_more written before more =
      has_written_of_eq _ _ _ _ _ (flat_map_more written [] (take i items) (get_or items i 0) ∙ ap (flat_map written) (sym (take_more items i 0 within))) (has_written_append _ _ _ _ _ _ before more)

  -- one more byte
  pub hex_more : HasWritten took f (flat_map hex_byte (take i items)) g → HasWritten took g (hex_byte (get_or items i 0)) h → HasWritten took f (flat_map hex_byte (take (i + 1) items)) h
  hex_more = one_more hex_byte

  -- one more move
  pub move_more : HasWritten took f (flat_map move_bytes (take i items)) g → HasWritten took g (move_bytes (get_or items i 0)) h → HasWritten took f (flat_map move_bytes (take (i + 1) items)) h
  move_more = one_more move_bytes
