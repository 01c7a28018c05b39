-- Unmarked candidates that are contained in a row.
use Rattle.std.proofs.Common.{◌≡◌, ◌<◌, ◌≤◌, ℕ, ◌+◌, Bool, true, false, not, ◌||◌, List, [], ◌∷◌, length, take, get_or, refl, sym, ap, ◌∙◌, arith}
use Rattle.std.specs.List.{filter_map}
use Rattle.std.proofs.lemmas.Bool.{and_parts, or_right, and_from, false≢true}
use Rattle.std.proofs.lemmas.List.{take_all, get_or_default}
use Rattle.std.proofs.lemmas.List.Folds.{list_any_more, list_any_at}
use Rattle.model.specs.declared.row.Row.{Row}
use Rattle.model.specs.declared.moves.Move.{Move}
use Rattle.model.specs.Moves.{applicable, progression}
use Rattle.model.specs.Rows.{contained}
use Rattle.rules.specs.Rules.{covers, stays_in}
use Rattle.settling.specs.declared.candidate.Candidate.{Candidate}
use Rattle.settling.specs.Candidates.{covered, covers_unmarked, row_if_unmarked, unmarked}
use Rattle.settling.specs.Standings.{CoveredAt}

-- the rows of the unmarked candidates cover what one of these covers
pub unmarked_cover : (cs : List Candidate) (t : Row) → covers (unmarked cs) t ≡ covered cs t
unfolding unmarked
unmarked_cover [] t = refl
unmarked_cover (c ∷ cs) t = by_mark c.marked (unmarked_cover cs t)
  where
    by_mark : (b : Bool) → covers (filter_map row_if_unmarked cs) t ≡ covered cs t → covers (filter_map row_if_unmarked (record { row = c.row; marked = b } ∷ cs)) t ≡ covered (record { row = c.row; marked = b } ∷ cs) t
    by_mark true later = later
    by_mark false later = ap (λ b. contained c.row t || b) later

module _ (cs : List Candidate) (t : Row) (k : ℕ) where
  -- one more candidate that does not cover the row
  pub one_more : (c : Candidate) → k < length cs → c ≡ get_or cs k c → covers_unmarked t c ≡ false → covered (take k cs) t ≡ false → covered (take (k + 1) cs) t ≡ false
  one_more c within read not_here none = list_any_more (covers_unmarked t) cs k c within ∙ grind arith

  pub no_more : length cs ≤ k → covered (take k cs) t ≡ false → covered cs t ≡ false
  no_more long none = ap (λ (l : List Candidate). covered l t) (sym (take_all k cs long)) ∙ none

  pub found : (c : Candidate) → k < length cs → c ≡ get_or cs k c → covers_unmarked t c ≡ true → covered cs t ≡ true
  found c within read here = list_any_at (covers_unmarked t) cs k c within (ap (covers_unmarked t) (sym read) ∙ here)

  pub found_at : (c : Candidate) → k < length cs → c ≡ get_or cs k c → covers_unmarked t c ≡ true → covered (take k cs) t ≡ false → CoveredAt cs t k
  found_at c within read here none = record {
    within = within;
    contains = λ other same. ap (λ (x : Candidate). contained x.row t) (same ∙ get_or_default cs k other c within ∙ sym read) ∙ (and_parts (not c.marked) (contained c.row t) here).1;
    none_before = none;
  }

  -- what covered the row covers it while it has no mark
  pub still_covered : (c : Candidate) → CoveredAt cs t k → c ≡ get_or cs k c → c.marked ≡ false → covered cs t ≡ true
  still_covered c at read bare = found c at.within read (and_from (not c.marked) (contained c.row t) (ap not bare) (at.contains c read))

module _ (calls : Row → Bool) (r : Row) (m : Move) where
  stays_covered : (set : List Row) → covers set (progression m r) ≡ true → stays_in calls set r m ≡ true
  stays_covered set h = or_right (not (applicable m r)) (calls (progression m r) || covers set (progression m r)) (or_right (calls (progression m r)) (covers set (progression m r)) h)

  -- what stays in without any row stays in
  pub stays_anyway : (set : List Row) → stays_in calls [] r m ≡ true → stays_in calls set r m ≡ true
  stays_anyway set h = by_cases (applicable m r) (calls (progression m r)) h
    where
      by_cases : (a b : Bool) → (not a || (b || false)) ≡ true → (not a || (b || covers set (progression m r))) ≡ true
      by_cases true true h = refl
      by_cases true false h = absurd (false≢true h)
      by_cases false b h = refl

  module _ (cs : List Candidate) where
    pub stays_where_covered : covered cs (progression m r) ≡ true → stays_in calls (unmarked cs) r m ≡ true
    stays_where_covered h = stays_covered (unmarked cs) (unmarked_cover cs (progression m r) ∙ h)

    pub leads_out : applicable m r ≡ true → calls (progression m r) ≡ false → covered cs (progression m r) ≡ false → stays_in calls (unmarked cs) r m ≡ false
    leads_out can silent none = rw (can, silent, unmarked_cover cs (progression m r) ∙ none) refl
