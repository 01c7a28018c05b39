-- Rows that cover others, as members of a set.
use Rattle.std.proofs.Common.{◌≡◌, true, ◌||◌, List, ◌++◌}
use Rattle.std.proofs.lemmas.List.Folds.{list_any-append}
use Rattle.model.specs.declared.row.Row.{Row}
use Rattle.model.specs.Rows.{contained}
use Rattle.lists.specs.Members.{Among, Within}
use Rattle.lists.proofs.Members.{any_among, any_from}
use Rattle.rules.specs.Rules.{covers}

-- rows of a set that are contained in a row
pub covering : (set : List Row) (t : Row) → covers set t ≡ true → (r : Row) × Among set r × (contained r t ≡ true)
covering set t h = any_among (λ r. contained r t) set h

pub covered : (set : List Row) (t r : Row) → Among set r → contained r t ≡ true → covers set t ≡ true
covered set t r a h = any_from (λ r. contained r t) set r a h

pub covered_by_more : (set more : List Row) (t : Row) → Within set more → covers set t ≡ true → covers more t ≡ true
covered_by_more set more t within h = let found = covering set t h in covered more t found.0 (within found.0 found.1) found.2

pub covers_both : (xs ys : List Row) (t : Row) → covers (xs ++ ys) t ≡ (covers xs t || covers ys t)
covers_both xs ys t = list_any-append (λ r. contained r t) xs ys
