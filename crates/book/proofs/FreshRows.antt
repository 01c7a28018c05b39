-- Rows are added one by one.
use Rattle.std.proofs.Common.{◌≡◌, ℕ, ◌+◌, ◌-◌, ◌<◌, ◌≤◌, true, false, ◌||◌, cond, List, [], ◌∷◌, ◌++◌, length, drop, get_or, sym, refl, ap, ◌∙◌, arith}
use Rattle.std.specs.List.{list_any}
use mathlib.Core.List.{append_assoc, append-nil}
use Rattle.std.proofs.Math.ListN.{length-append}
use Rattle.std.proofs.lemmas.Bool.Decides.{nat_tests}
use Rattle.std.proofs.lemmas.List.{drop_more, drop_all}
use Rattle.model.specs.declared.row.Row.{Row}
use Rattle.model.specs.Rows.{same_row}
use Rattle.first_come.specs.Arrivals.{has}
use Rattle.book.specs.Adding.{fresh, overfull}

-- a list holds a row if one of its rows is the same
pub any_same : (rows : List Row) (r : Row) → list_any (λ own. same_row own r) rows ≡ has same_row rows r
any_same [] r = refl
any_same (x ∷ rows) r = ap (λ b. same_row x r || b) (any_same rows r)

-- the rows that are held now, with those that are still to come of the list from a place on
unfoldable pub in_the_end : List Row → List Row → ℕ → List Row
in_the_end rows list i = rows ++ fresh rows (drop i list)

module _ (rows list : List Row) (i : ℕ) (x : Row) (within : i < length list) (read : x ≡ get_or list i x) where
  fresh_more : fresh rows (drop i list) ≡ cond (has same_row rows x) (fresh rows (drop (i + 1) list)) (x ∷ fresh (rows ++ x ∷ []) (drop (i + 1) list))
  unfolding fresh
  fresh_more = rw (drop_more list i x within, sym read)

  pub held_already : has same_row rows x ≡ true → in_the_end rows list i ≡ in_the_end rows list (i + 1)
  unfolding in_the_end
  held_already h = ap (λ (w : List Row). rows ++ w) (rw h at fresh_more)

  taken : has same_row rows x ≡ false → in_the_end rows list i ≡ rows ++ (x ∷ fresh (rows ++ x ∷ []) (drop (i + 1) list))
  unfolding in_the_end
  taken h = ap (λ (w : List Row). rows ++ w) (rw h at fresh_more)

  pub pushed : has same_row rows x ≡ false → in_the_end rows list i ≡ in_the_end (rows ++ x ∷ []) list (i + 1)
  unfolding in_the_end
  pushed h = taken h ∙ sym (append_assoc rows (x ∷ []) (fresh (rows ++ x ∷ []) (drop (i + 1) list)))

  pub longer : has same_row rows x ≡ false → length rows < length (in_the_end rows list i)
  longer h = rw (taken h) (simp length-append (omega arith))

pub nothing_to_come : (rows list : List Row) (i : ℕ) → length list ≤ i → in_the_end rows list i ≡ rows
unfolding in_the_end fresh
nothing_to_come rows list i h = rw (drop_all i list h) (append-nil rows)

module _ (own list all : List Row) (is : all ≡ own ++ fresh own list) where
  lengths : length all ≡ length own + length (fresh own list)
  lengths = ap length is ∙ length-append own (fresh own list)

  pub over : 256 < length all → overfull own list ≡ true
  over h = let sum = lengths in grind (arith, nat_tests)

  pub not_over : length all ≤ 256 → overfull own list ≡ false
  not_over h = let sum = lengths in grind (arith, nat_tests)

  pub number_added : length all - length own ≡ length (fresh own list)
  number_added = omega (arith, lengths)
