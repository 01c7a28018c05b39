-- Parts of listed states, in the order of the states.
use Rattle.std.proofs.Common.{◌≡◌, ℕ, ◌+◌, ◌*◌, ◌<◌, ◌≤◌, Bool, true, false, cond, ◌&&◌, List, [], ◌∷◌, length, Some, None, Option, ◌⊎◌, inl, inr, refl, ap, subst, ⊎_elim, arith}
use Rattle.std.specs.Prelude.{option_map}
use Rattle.std.specs.List.{list_all}
use Rattle.std.proofs.lemmas.Bool.{and_parts, and_from, both_ways}
use Rattle.model.specs.declared.row.Row.{Row}
use Rattle.model.specs.Rows.{contained}
use Rattle.lists.specs.Members.{Among}
use Rattle.model.specs.Records.{ModelRecord, row_of_model}
use Rattle.model.proofs.Progressions.{contained_fits}
use Rattle.rules.specs.Rules.{keeps_rule_1}
use Rattle.learning.specs.Parts.{missing, regained}
use Rattle.learning.specs.Learns.{first_parts, regain_lowest}
use Rattle.learning.specs.Laws.{PartsOf}
use Rattle.learning.proofs.Lowest.{holding, holding_most}
use Rattle.learning.proofs.Gaining.{regained_within, regained_more, regained_fewer, first_part_within, first_part_apart, disagree_more}

mapped : {A B : Type 0} (f : A → B) (o : Option A) (y : B) → option_map f o ≡ Some y → (x : A) × (o ≡ Some x) × (f x ≡ y)
mapped f None y e = cc
mapped f (Some x) y e = (x, refl, cc)

unmapped : {A B : Type 0} (f : A → B) (o : Option A) → option_map f o ≡ None → o ≡ None
unmapped f None e = refl
unmapped f (Some x) e = cc

pub parts_counted : (ss ps : List Row) → PartsOf ss ps → length ps ≡ length ss
parts_counted [] [] e = refl
parts_counted [] (p ∷ ps) e = absurd e
parts_counted (s ∷ ss) [] e = absurd e
parts_counted (s ∷ ss) (p ∷ ps) e = let later = parts_counted ss ps e.1 in omega arith

-- each state has a part
pub part_of_state : (ss ps : List Row) → PartsOf ss ps → (s : Row) → Among ss s → (p : Row) × Among ps p × (contained p s ≡ true)
part_of_state [] ps e s a = absurd a
part_of_state (t ∷ ss) [] e s a = absurd e
part_of_state (t ∷ ss) (q ∷ ps) e s a =
    ⊎_elim
    (λ (same : t ≡ s). (q, inl refl, subst (λ x. contained q x ≡ true) same e.0))
    (λ b. let found = part_of_state ss ps e.1 s b in (found.0, inr found.1, found.2)) a

-- parts of rows of the model are such rows
pub parts_fit : (d : ModelRecord) (ss ps : List Row) → PartsOf ss ps → list_all (row_of_model d) ss ≡ true → list_all (row_of_model d) ps ≡ true
parts_fit d [] [] e fit = refl
parts_fit d [] (p ∷ ps) e fit = absurd e
parts_fit d (s ∷ ss) [] e fit = absurd e
parts_fit d (s ∷ ss) (p ∷ ps) e fit =
    let own = and_parts (row_of_model d s) (list_all (row_of_model d) ss) fit in
    and_from _ _ (contained_fits d.variables p s e.0 own.0) (parts_fit d ss ps e.1 own.1)

-- how many entries the parts may regain
pub to_regain : List Row → List Row → ℕ
to_regain [] ps = 0
to_regain (s ∷ ss) [] = 0
to_regain (s ∷ ss) (p ∷ ps) = holding (missing s p) + to_regain ss ps

pub most_to_regain : (ss ps : List Row) → to_regain ss ps ≤ 32 * length ss
unfolding to_regain
most_to_regain [] ps = omega arith
most_to_regain (s ∷ ss) [] = omega arith
most_to_regain (s ∷ ss) (p ∷ ps) = omega (arith, most_to_regain ss ps, holding_most (missing s p))

-- what they keep at first
pub parts_at_first : (d : ModelRecord) (ss : List Row) → PartsOf ss (first_parts d ss)
parts_at_first d [] = tt
parts_at_first d (s ∷ ss) = (first_part_within d.goal s, parts_at_first d ss)

pub apart_at_first : (d : ModelRecord) (ss : List Row) → list_all (keeps_rule_1 d) ss ≡ true → list_all (keeps_rule_1 d) (first_parts d ss) ≡ true
apart_at_first d [] h = refl
apart_at_first d (s ∷ ss) h =
    let own = and_parts (keeps_rule_1 d s) (list_all (keeps_rule_1 d) ss) h in
    and_from _ _ (first_part_apart d.goal s own.0) (apart_at_first d ss own.1)

-- one state's part gains its lowest missing variable, and the others stay
abbrev pub OneRegains : List Row → List Row → List Row → Type 0
OneRegains [] ps next = ⊥
OneRegains (s ∷ ss) [] next = ⊥
OneRegains (s ∷ ss) (p ∷ ps) [] = ⊥
OneRegains (s ∷ ss) (p ∷ ps) (q ∷ next) = ((regained s p ≡ Some q) × (ps ≡ next)) ⊎ ((p ≡ q) × OneRegains ss ps next)

pub parts_regained : (ss ps next : List Row) → OneRegains ss ps next → PartsOf ss ps → PartsOf ss next
parts_regained [] ps next one e = absurd one
parts_regained (s ∷ ss) [] next one e = absurd one
parts_regained (s ∷ ss) (p ∷ ps) [] one e = absurd one
parts_regained (s ∷ ss) (p ∷ ps) (q ∷ next) one e =
    ⊎_elim
    (λ here. (regained_within s p e.0 q here.0, subst (PartsOf ss) here.1 e.1))
    (λ there. (subst (λ r. contained r s ≡ true) there.0 e.0, parts_regained ss ps next there.1 e.1)) one

pub apart_regained : (d : ModelRecord) (ss ps next : List Row) → OneRegains ss ps next → list_all (keeps_rule_1 d) ps ≡ true → list_all (keeps_rule_1 d) next ≡ true
apart_regained d [] ps next one h = absurd one
apart_regained d (s ∷ ss) [] next one h = absurd one
apart_regained d (s ∷ ss) (p ∷ ps) [] one h = absurd one
apart_regained d (s ∷ ss) (p ∷ ps) (q ∷ next) one h =
    let own = and_parts (keeps_rule_1 d p) (list_all (keeps_rule_1 d) ps) h in
    ⊎_elim
    (λ here. and_from _ _ (disagree_more p q d.goal (regained_more s p q here.0) own.0) (subst (λ l. list_all (keeps_rule_1 d) l ≡ true) here.1 own.1))
    (λ there. and_from _ _ (subst (λ r. keeps_rule_1 d r ≡ true) there.0 own.0) (apart_regained d ss ps next there.1 own.1)) one

pub fewer_to_regain : (ss ps next : List Row) → OneRegains ss ps next → to_regain ss next < to_regain ss ps
unfolding to_regain
fewer_to_regain [] ps next one = absurd one
fewer_to_regain (s ∷ ss) [] next one = absurd one
fewer_to_regain (s ∷ ss) (p ∷ ps) [] one = absurd one
fewer_to_regain (s ∷ ss) (p ∷ ps) (q ∷ next) one =
    ⊎_elim
    (λ here. omega (arith, regained_fewer s p q here.0, ap (to_regain ss) here.1))
    (λ there. omega (arith, ap (λ r. holding (missing s r)) there.0, fewer_to_regain ss ps next there.1)) one

module _ (test : Row → Bool) where
  -- the lowest part that fails a test is the one that gains
  pub lowest_regains : (ss ps next : List Row) → regain_lowest test ss ps ≡ Some next → OneRegains ss ps next
  unfolding regain_lowest
  lowest_regains [] ps next e = cc
  lowest_regains (s ∷ ss) [] next e = cc
  lowest_regains (s ∷ ss) (p ∷ ps) next e =
      (elim (test p) as (λ b. cond b (option_map (λ more. p ∷ more) (regain_lowest test ss ps)) (option_map (λ more. more ∷ ps) (regained s p)) ≡ Some next → OneRegains (s ∷ ss) (p ∷ ps) next) [
        | true ↦ λ h.
            let later = mapped (λ more. p ∷ more) (regain_lowest test ss ps) next h in
            subst (OneRegains (s ∷ ss) (p ∷ ps)) later.2 (inr (refl, lowest_regains ss ps later.0 later.1))
        | false ↦ λ h.
            let own = mapped (λ more. more ∷ ps) (regained s p) next h in
            subst (OneRegains (s ∷ ss) (p ∷ ps)) own.2 (inl (own.1, refl))
      ]) e

  -- where none gains, and a part that is its whole state passes, all pass
  pub all_pass : (ss ps : List Row) → PartsOf ss ps → ((s p : Row) → Among ss s → contained p s ≡ true → regained s p ≡ None → test p ≡ true) → regain_lowest test ss ps ≡ None → list_all test ps ≡ true
  unfolding regain_lowest
  all_pass [] [] e whole none = refl
  all_pass [] (p ∷ ps) e whole none = absurd e
  all_pass (s ∷ ss) [] e whole none = refl
  all_pass (s ∷ ss) (p ∷ ps) e whole none =
      (elim (test p) as (λ b. test p ≡ b → cond b (option_map (λ more. p ∷ more) (regain_lowest test ss ps)) (option_map (λ more. more ∷ ps) (regained s p)) ≡ None → (b && list_all test ps) ≡ true) [
        | true ↦ λ _ h. all_pass ss ps e.1 (λ t q a. whole t q (inr a)) (unmapped (λ more. p ∷ more) (regain_lowest test ss ps) h)
        | false ↦ λ fails h. absurd (both_ways (test p) fails (whole s p (inl refl) e.0 (unmapped (λ more. more ∷ ps) (regained s p) h)))
      ]) refl none
