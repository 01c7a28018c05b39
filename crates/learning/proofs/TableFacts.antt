-- The table of all standings: a part's row of it is read and put, and the parts are searched.
use Rattle.std.proofs.Common.{◌≡◌, ◌≢◌, ℕ, ◌+◌, ◌<◌, ◌≤◌, Bool, false, cond, List, length, drop, get_or, replicate, set, Some, Option, sym, subst, ◌∙◌, ⊎_elim, arith}
use Rattle.std.specs.List.{position_from}
use Rattle.std.proofs.lemmas.Bool.{cases_eq, cases_lt}
use Rattle.std.proofs.lemmas.List.{get_or_default, get_or_past, get_or-replicate, get_or-set_same, get_or-set_other, drop_more, length-replicate}
use Rattle.model.specs.declared.row.Row.{Row}
use Rattle.model.specs.Records.{ModelRecord}
use Rattle.learning.specs.declared.standing.Standing.TheVariants.{Unknown}
use Rattle.learning.specs.declared.standings.Standings.{Standings}
use Rattle.learning.specs.Standings.{none_known, NothingKnown, AllStand, TableStands}
use Rattle.learning.proofs.StandingFacts.{same_item, at_past}

module _ (d : ModelRecord) (dead : Row → Bool) (rows parts : List Row) (table : List Standings) (right : TableStands d dead rows parts table) (room : length parts ≤ length table)
    (k : ℕ) (p : Row) (within : k < length parts) (read : p ≡ get_or parts k p) where
  pub row_read : (s : Standings) → AllStand d dead rows parts p (get_or table k s)
  unfolding TableStands
  row_read s = subst (AllStand d dead rows parts p) (get_or_default table k none_known s (omega arith)) (right k p within read)

  pub row_put : (s : Standings) → AllStand d dead rows parts p s → TableStands d dead rows parts (set table k s)
  unfolding TableStands
  row_put s own = λ j q below is. ⊎_elim
      (λ (same : j ≡ k).
      let one : p ≡ q = same_item parts k p q within read (rw same at is) in
      rw (same, get_or-set_same table k s none_known (omega arith)) (subst (λ r. AllStand d dead rows parts r s) one own))
      (λ (other : j ≢ k). rw (get_or-set_other table k j s none_known other) (right j q below is))
      (cases_eq j k)

-- what is not known is right, whatever the parts are
none_stand : (d : ModelRecord) (dead : Row → Bool) (rows parts : List Row) (p : Row) → AllStand d dead rows parts p none_known
unfolding AllStand
none_stand d dead rows parts p = λ n m within read. ⊎_elim
    (λ (few : n < 128). rw (get_or-replicate 128 n (Unknown 0) (Unknown 0) few) tt)
    (λ (many : 128 ≤ n). rw (at_past none_known n many) tt)
    (cases_lt n 128)

pub nothing_stands : (d : ModelRecord) (dead : Row → Bool) (rows parts : List Row) (table : List Standings) → NothingKnown table → TableStands d dead rows parts table
unfolding TableStands
nothing_stands d dead rows parts table none = λ k p within read. subst (AllStand d dead rows parts p) (sym (none k)) (none_stand d dead rows parts p)

pub nothing_known : (s : Standings) → s ≡ none_known → NothingKnown (replicate 256 s)
nothing_known s none = λ k. ⊎_elim
    (λ (few : k < 256). get_or-replicate 256 k s none_known few ∙ none)
    (λ (many : 256 ≤ k). get_or_past (replicate 256 s) k none_known (omega (arith, length-replicate {A = Standings} 256 s)))
    (cases_lt k 256)

-- what is left of the parts gives the whole answer
module _ {X : Type 0} (test : X → Bool) (xs : List X) (i : ℕ) (whole : Option ℕ) (left : position_from test i (drop i xs) ≡ whole) (x : X) (within : i < length xs) (read : x ≡ get_or xs i x) where
  more : position_from test i (drop i xs) ≡ cond (test x) (Some i) (position_from test (i + 1) (drop (i + 1) xs))
  more = rw (drop_more xs i x within, sym read)

  pub fails_further : test x ≡ false → position_from test (i + 1) (drop (i + 1) xs) ≡ whole
  fails_further fails = sym (rw fails at more) ∙ left
