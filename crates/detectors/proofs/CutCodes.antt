-- Cuts that give their variables, each by a value below its size: there are no more of them than the product of the sizes.
use Rattle.std.proofs.Common.{◌≡◌, ℕ, ◌+◌, ◌*◌, ◌<◌, true, List, is_some, unwrap_or, Some, None, Option, sym, refl, ap, ◌∙◌, subst, arith}
use Rattle.std.proofs.lemmas.Nat.{mul-add-lt}
use Rattle.std.proofs.lemmas.Bool.{and_parts, false≢true}
use Rattle.model.specs.declared.row.Row.{Row}
use Rattle.model.specs.declared.moves.Move.{Move}
use Rattle.model.specs.declared.variable.Variable.{Variable}
use Rattle.model.specs.Rows.{at}
use Rattle.model.specs.Moves.{or_else}
use Rattle.model.specs.Limits.{size_at, row_fits}
use Rattle.detectors.specs.declared.pattern.cut.Cut.{Cut}
use Rattle.detectors.specs.declared.pattern.variables.Variables.{Variables}
use Rattle.detectors.specs.Cuts.{entry_of, cut_of, cut_move, progression_cut}
use Rattle.detectors.specs.PatternMeaning.{size_or_one, product_of_sizes, given_if_any, gives}
use Rattle.detectors.specs.CutSameness.{from_entries}
use Rattle.detectors.specs.Digits.{digits}
use Rattle.detectors.proofs.FactsOfRows.{given_fits}

abbrev value : Option ℕ → ℕ
value e = unwrap_or e 0

given_value : (e : Option ℕ) → is_some e ≡ true → (v : ℕ) × (e ≡ Some v)
given_value None h = absurd (false≢true h)
given_value (Some v) h = (v, refl)

module _ (vs : List Variable) where
  -- the entry gives the variable below its size, or is open where there is no variable
  abbrev Inside : Option ℕ → Option ℕ → Type 0
  Inside None e = e ≡ None
  Inside (Some v) e = (y : ℕ) × (e ≡ Some y) × (y < size_at vs v)

  value_below : (o e : Option ℕ) → Inside o e → value e < size_or_one vs o
  value_below None e h = subst (λ q. value q < 1) (sym h) (omega arith)
  value_below (Some v) e h = subst (λ q. value q < size_at vs v) (sym h.1) h.2

  value_own : (o e f : Option ℕ) → Inside o e → Inside o f → value e ≡ value f → e ≡ f
  value_own None e f h k q = h ∙ sym k
  value_own (Some v) e f h k q = h.1 ∙ ap (λ n. Some n) (sym (ap value h.1) ∙ q ∙ ap value k.1) ∙ sym k.1

  inside_given : (row : Row) → row_fits vs row ≡ true → (o : Option ℕ) → given_if_any row o ≡ true → Inside o (entry_of row o)
  inside_given row fits None g = refl
  inside_given row fits (Some v) g = let y = given_value (at row v) g in (y.0, y.1, given_fits vs row fits v y.0 y.1)

  -- after a move whose effects e are those of the model
  or_else_inside : (v : ℕ) (e t c : Option ℕ) → ((y : ℕ) → e ≡ Some y → y < size_at vs v) → Inside (Some v) t → Inside (Some v) (or_else e (or_else t c))
  or_else_inside v None t c fits h = (h.0, ap (λ q. or_else q c) h.1, h.2)
  or_else_inside v (Some y) t c fits h = (y, refl, fits y refl)

  inside_next : (m : Move) → row_fits vs m.effects ≡ true → (o t : Option ℕ) → Inside o t → Inside o (or_else (entry_of m.effects o) (or_else t (entry_of m.conditions o)))
  inside_next m fits None t h = ap (λ q. or_else q None) h
  inside_next m fits (Some v) t h = or_else_inside v (at m.effects v) t (at m.conditions v) (given_fits vs m.effects fits v) h

  module _ (x : Variables) where
    -- the cuts that a walk can reach
    abbrev pub May : Cut → Type 0
    May t = Inside (Some x.first) t.first × Inside x.second t.second × Inside x.third t.third

    abbrev behind_first : Cut → ℕ
    behind_first t = value t.third * size_or_one vs x.second + value t.second

    abbrev pub code_of : Cut → ℕ
    code_of t = behind_first t * size_at vs x.first + value t.first

    pub code_below : (t : Cut) → May t → code_of t < product_of_sizes vs x
    code_below t m =
        mul-add-lt (behind_first t) (size_at vs x.first) (value t.first) (size_or_one vs x.second * size_or_one vs x.third)
        (mul-add-lt (value t.third) (size_or_one vs x.second) (value t.second) (size_or_one vs x.third) (value_below x.third t.third m.2) (value_below x.second t.second m.1))
        (value_below (Some x.first) t.first m.0)

    pub code_apart : (s t : Cut) → May s → May t → code_of s ≡ code_of t → s ≡ t
    code_apart s t m n e =
        let a = digits (behind_first s) (value s.first) (behind_first t) (value t.first) (size_at vs x.first) (value_below (Some x.first) s.first m.0) (value_below (Some x.first) t.first n.0) e in
        let b = digits (value s.third) (value s.second) (value t.third) (value t.second) (size_or_one vs x.second) (value_below x.second s.second m.1) (value_below x.second t.second n.1) a.0 in
        from_entries s t (value_own (Some x.first) s.first t.first m.0 n.0 a.1) (value_own x.second s.second t.second m.1 n.1 b.1) (value_own x.third s.third t.third m.2 n.2 b.0)

    pub progression_may : (m : Move) → row_fits vs m.effects ≡ true → (s : Cut) → May s → May (progression_cut (cut_move x m) s)
    progression_may m fits s h = (inside_next m fits (Some x.first) s.first h.0, inside_next m fits x.second s.second h.1, inside_next m fits x.third s.third h.2)

    pub cut_may : (row : Row) → row_fits vs row ≡ true → gives row x ≡ true → May (cut_of x row)
    cut_may row fits g =
        let p = and_parts (given_if_any row (Some x.first)) _ g in
        let q = and_parts (given_if_any row x.second) (given_if_any row x.third) p.1 in
        (inside_given row fits (Some x.first) p.0, inside_given row fits x.second q.0, inside_given row fits x.third q.1)
