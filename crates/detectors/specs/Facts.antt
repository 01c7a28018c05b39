-- Facts, each a variable with a value, and the facts of a row.
use Rattle.std.specs.Prelude.{ℕ, zero, suc, ◌+◌, ◌*◌, Bool, true, cond, ◌&&◌, List, [], ◌∷◌, ◌++◌, Some, None, Option, ◌==◌, nat_lt}
use Rattle.first_come.specs.Arrivals.{has}
use Rattle.model.specs.declared.row.Row.{Row}
use Rattle.model.specs.declared.variable.Variable.{Variable}
use Rattle.lists.specs.Below.{all_below}
use Rattle.model.specs.Limits.{size_at}
use Rattle.model.specs.Rows.{at}
use Rattle.detectors.specs.declared.relaxed.fact.Fact.{Fact}

-- the variable v with the value x
abbrev pub fact_of : ℕ → ℕ → Fact
fact_of v x = record { variable = v; value = x }

-- the same variable with the same value
abbrev pub same_fact : Fact → Fact → Bool
same_fact f g = f.variable == g.variable && f.value == g.value

-- a fact's number: there are 16 for each variable
abbrev pub fact_number : Fact → ℕ
fact_number f = 16 * f.variable + f.value

-- its mark in a table, if its value has a number among those of its variable
abbrev pub fact_mark : Fact → Option ℕ
fact_mark f = cond (nat_lt f.value 16) (Some (fact_number f)) None

-- the facts that f gives at n numbers, from i on
unfoldable pub facts_from : (ℕ → List Fact) → ℕ → ℕ → List Fact
facts_from f i zero = []
facts_from f i (suc n) = f i ++ facts_from f (i + 1) n

-- all facts of a variable
abbrev pub values_of : ℕ → ℕ → List Fact
values_of v size = facts_from (λ x. fact_of v x ∷ []) 0 size

-- a given entry's fact
abbrev pub given_fact : ℕ → Option ℕ → List Fact
given_fact v None = []
given_fact v (Some x) = fact_of v x ∷ []

-- a given entry's fact, or all facts of an open variable
abbrev pub entry_facts : ℕ → ℕ → Option ℕ → List Fact
entry_facts v size None = values_of v size
entry_facts v size (Some x) = fact_of v x ∷ []

-- the fact that a row gives of the variable v
abbrev pub given_at : Row → ℕ → List Fact
given_at row v = given_fact v (at row v)

-- the facts of a row's given entries
abbrev pub given_facts : Row → List Fact
given_facts row = facts_from (given_at row) 0 32

-- the facts of the variable v that agree with a row
abbrev pub facts_at : List Variable → Row → ℕ → List Fact
facts_at vs row v = entry_facts v (size_at vs v) (at row v)

-- the facts that a row begins with: those of its given entries, and all facts of its open variables
abbrev pub row_facts : List Variable → Row → List Fact
row_facts vs row = facts_from (facts_at vs row) 0 32

-- the entry is open, or its fact is among the facts
abbrev pub entry_reached : List Fact → ℕ → Option ℕ → Bool
entry_reached facts v None = true
entry_reached facts v (Some x) = has same_fact facts (fact_of v x)

-- the fact of each given entry is among the facts
abbrev pub all_reached : List Fact → Row → Bool
all_reached facts row = all_below (λ v. entry_reached facts v (at row v)) 32
