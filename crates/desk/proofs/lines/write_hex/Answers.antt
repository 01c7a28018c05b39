use Rattle.std.proofs.Common.{◌∷◌, false, ap, rules}
use Rattle.std.proofs.lemmas.Fmt.{hex_byte}
use Rattle.std.proofs.Output.{has_written_of_eq}
use Rattle.desk.proofs.lines.write_hex.Goals as goal

pub returns : goal.returns
returns g c = λ plain ok. has_written_of_eq _ _ _ _ _ (ap (λ ds. 32 ∷ ds) (hex_byte false c.args.byte (search rules))) (search rules)
