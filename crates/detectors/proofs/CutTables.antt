-- The table tells of a row that gives the variables whether its cut is cut off.
use Rattle.std.proofs.Common.{◌≡◌, ℕ, suc, ◌+◌, ◌*◌, ◌/◌, ◌%◌, ◌<◌, true, false, ◌&&◌, List, is_some, get_or, map, Some, None, Option, refl, ap, ◌∙◌, arith}
use Rattle.std.proofs.lemmas.Nat.{div-mul-add, mod-mul-add, mul-add-lt}
use Rattle.std.proofs.lemmas.Bool.{and_parts, and_from, ltb-true, lt-ltb, false≢true}
use Rattle.std.proofs.lemmas.List.FromFn.{get_or-map-range_with_len}
use Rattle.model.specs.declared.row.Row.{Row}
use Rattle.model.specs.declared.variable.Variable.{Variable}
use Rattle.model.specs.Rows.{at}
use Rattle.model.specs.Limits.{size_at, sizes_fit, row_fits}
use Rattle.model.specs.Records.{ModelRecord, row_of_model, Sealed}
use Rattle.detectors.specs.declared.pattern.cut.Cut.{Cut}
use Rattle.detectors.specs.declared.pattern.variables.Variables.{Variables}
use Rattle.detectors.specs.Cuts.{entry_of, cut_of, cut_move}
use Rattle.detectors.specs.CutMarks.{digit_of, code}
use Rattle.detectors.specs.CutSameness.{from_entries}
use Rattle.detectors.specs.CutTables.{entry_at, cut_at, value_of, whole_cut, dead_cut, cut_table}
use Rattle.detectors.specs.CutWalk.{cut_off}
use Rattle.detectors.specs.PatternMeaning.{given_if_any, gives}
use Rattle.detectors.proofs.FactsOfRows.{given_fits}
use Rattle.detectors.proofs.Limited.{size_at_most}

entry_again : (e : Option ℕ) → entry_at (digit_of e) ≡ e
entry_again None = refl
entry_again (Some v) = let one : v + 1 ≡ suc v = omega arith in ap entry_at one

-- the three digits of a cut
abbrev Small : Cut → Type 0
Small t = (digit_of t.first < 17) × (digit_of t.second < 17) × (digit_of t.third < 17)

-- a cut is the one that its number stands for
cut_again : (t : Cut) → Small t → cut_at (code t) ≡ t
cut_again t small =
    let a = digit_of t.first in
    let b = digit_of t.second in
    let c = digit_of t.third in
    let n = code t in
    let high : n / 17 ≡ a * 17 + b = div-mul-add (a * 17 + b) 17 c small.2 in
    let third : n % 17 ≡ c = mod-mul-add (a * 17 + b) 17 c small.2 in
    let second : n / 17 % 17 ≡ b = ap (λ m. m % 17) high ∙ mod-mul-add a 17 b small.1 in
    let plain : a ≡ 0 * 17 + a = omega arith in
    let first : n / 17 / 17 % 17 ≡ a = ap (λ m. m / 17 % 17) high ∙ ap (λ m. m % 17) (div-mul-add a 17 b small.1) ∙ ap (λ m. m % 17) plain ∙ mod-mul-add 0 17 a small.0 in
    from_entries (cut_at n) t (ap entry_at first ∙ entry_again t.first) (ap entry_at second ∙ entry_again t.second) (ap entry_at third ∙ entry_again t.third)

module _ (vs : List Variable) (sized : sizes_fit vs ≡ true) where
  digit_small : (o e : Option ℕ) → value_of vs o e ≡ true → digit_of e < 17
  digit_small None None h = omega arith
  digit_small None (Some y) h = absurd (false≢true h)
  digit_small (Some v) None h = absurd (false≢true h)
  digit_small (Some v) (Some y) h = omega (arith, ltb-true y (size_at vs v) h, size_at_most vs v sized)

  whole_small : (x : Variables) (t : Cut) → whole_cut vs x t ≡ true → Small t
  whole_small x t h =
      let p = and_parts (value_of vs (Some x.first) t.first) _ h in
      let q = and_parts (value_of vs x.second t.second) (value_of vs x.third t.third) p.1 in
      (digit_small (Some x.first) t.first p.0, digit_small x.second t.second q.0, digit_small x.third t.third q.1)

  module _ (row : Row) (fits : row_fits vs row ≡ true) where
    value_given : (o : Option ℕ) → given_if_any row o ≡ true → value_of vs o (entry_of row o) ≡ true
    value_given None g = refl
    value_given (Some v) g = go (at row v) refl g
      where
        go : (e : Option ℕ) → at row v ≡ e → is_some e ≡ true → value_of vs (Some v) e ≡ true
        go None is h = absurd (false≢true h)
        go (Some y) is h = lt-ltb y (size_at vs v) (given_fits vs row fits v y is)

    whole_if_given : (x : Variables) → gives row x ≡ true → whole_cut vs x (cut_of x row) ≡ true
    whole_if_given x g =
        let p = and_parts (given_if_any row (Some x.first)) _ g in
        let q = and_parts (given_if_any row x.second) (given_if_any row x.third) p.1 in
        and_from _ _ (value_given (Some x.first) p.0) (and_from _ _ (value_given x.second q.0) (value_given x.third q.1))

code_small : (t : Cut) → Small t → code t < 4913
code_small t small = mul-add-lt (digit_of t.first * 17 + digit_of t.second) 17 (digit_of t.third) 289 (mul-add-lt (digit_of t.first) 17 (digit_of t.second) 17 small.0 small.1) small.2

pub table_tells : (d : ModelRecord) (x : Variables) (row : Row) → Sealed d → row_of_model d row ≡ true → gives row x ≡ true → get_or (cut_table d x) (code (cut_of x row)) false ≡ cut_off (map (cut_move x) d.moves) (cut_of x d.goal) (cut_of x row)
unfolding cut_table
table_tells d x row sealed fits given =
    let t = cut_of x row in
    let whole = whole_if_given d.variables sealed.sizes_from_1_to_16 row fits x given in
    let small = whole_small d.variables sealed.sizes_from_1_to_16 x t whole in
    get_or-map-range_with_len (λ n. dead_cut d x (cut_at n)) 0 4913 (code t) (code t) false (code_small t small) (omega arith)
    ∙ ap (dead_cut d x) (cut_again t small)
    ∙ ap (λ b. b && cut_off (map (cut_move x) d.moves) (cut_of x d.goal) t) whole
