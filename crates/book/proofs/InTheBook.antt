-- Rule 2 over a book is rule 2 over its detector, with the book's rows among those of the set.
use Rattle.std.proofs.Common.{◌≡◌, Bool, true, false, not, ◌&&◌, ◌||◌, List, ◌++◌, sym, ap, ◌∙◌}
use Rattle.std.proofs.Math.Bool.{or_assoc}
use Rattle.std.proofs.lemmas.Bool.{false≢true}
use Rattle.model.specs.declared.row.Row.{Row}
use Rattle.model.specs.declared.moves.Move.{Move}
use Rattle.model.specs.Moves.{applicable, progression}
use Rattle.lists.specs.Members.{Among}
use Rattle.model.specs.Records.{ModelRecord, Sealed, row_of_model}
use Rattle.rules.specs.Rules.{covers, stays_in}
use Rattle.rules.proofs.Covering.{covers_both}
use Rattle.book.specs.Verdicts.{book_dead}
use Rattle.model.proofs.Progressions.{row_progresses}

-- what the book calls dead, or one of the set covers, is called dead or covered by one of both
called_or_covered : (q f b c e : Bool) → f ≡ true → e ≡ (b || c) → ((q || (f && b)) || c) ≡ (q || e)
called_or_covered q true b c e h k = or_assoc q b c ∙ ap (λ x. q || x) (sym k)
called_or_covered q false b c e h k = absurd (false≢true h)

module _ (d : ModelRecord) (dead : Row → Bool) (rows set : List Row) where
  pub called_in_the_book : (t : Row) → row_of_model d t ≡ true → (book_dead d dead rows t || covers set t) ≡ (dead t || covers (rows ++ set) t)
  called_in_the_book t fits = called_or_covered (dead t) (row_of_model d t) (covers rows t) (covers set t) (covers (rows ++ set) t) fits (covers_both rows set t)

  pub rule_2_in_the_book : Sealed d → (r : Row) → row_of_model d r ≡ true → (m : Move) → Among d.moves m → stays_in (book_dead d dead rows) set r m ≡ stays_in dead (rows ++ set) r m
  rule_2_in_the_book sealed r fits m among =
      ap (λ b. not (applicable m r) || b) (called_in_the_book (progression m r) (row_progresses d sealed m among r fits))
