-- The lowest part that breaks rule 2 is the one that regains.
use Rattle.std.proofs.Common.{◌≡◌, ℕ, ◌+◌, suc, zero, Bool, true, false, not, cond, List, [], ◌∷◌, length, Some, None, Option, is_some, get_or, set, refl, sym, ap, ◌∙◌, arith}
use Rattle.std.specs.Prelude.{option_map}
use Rattle.std.specs.List.{position_from}
use Rattle.model.specs.declared.row.Row.{Row}
use Rattle.model.specs.Records.{ModelRecord}
use Rattle.walk.specs.declared.walked.Walked.{Walked}
use Rattle.walk.specs.Answers.{states_of}
use Rattle.learning.specs.Parts.{lowest_missing, with_entry_of, regained}
use Rattle.learning.specs.Learns.{keeps_with, first_affected, regain_lowest, regain_once}

map_in_front : (p : Row) (f : Row → List Row) (o : Option Row) → option_map (λ more. p ∷ more) (option_map f o) ≡ option_map (λ q. p ∷ f q) o
map_in_front p f None = refl
map_in_front p f (Some q) = refl

module _ (test : Row → Bool) where
  abbrev fails : Row → Bool
  fails p = not (test p)

  -- where none fails, none regains
  none_fails : (n : ℕ) (ss ps : List Row) → position_from fails n ps ≡ None → regain_lowest test ss ps ≡ None
  unfolding regain_lowest
  none_fails n [] ps e = refl
  none_fails n (s ∷ ss) [] e = refl
  none_fails n (s ∷ ss) (p ∷ ps) e =
      (elim (test p) as (λ b. cond (not b) (Some n) (position_from fails (n + 1) ps) ≡ None → cond b (option_map (λ more. p ∷ more) (regain_lowest test ss ps)) (option_map (λ more. more ∷ ps) (regained s p)) ≡ None)
      [ true ↦ λ h. rw (none_fails (n + 1) ss ps h) | false ↦ λ h. cc ]) e

  -- the lowest that fails is at the place n + place, counted from n, and it is the one that regains
  record Affected (ws : List Walked) (ps : List Row) (n k : ℕ) : Type 0 where
    pub place : ℕ
    pub is : k ≡ n + place
    pub one_regains : (w : Walked) (p : Row) → regain_lowest test (states_of ws) ps ≡ option_map (λ more. set ps place more) (regained (get_or ws place w).state (get_or ps place p))

  affected : (ws : List Walked) (ps : List Row) (n k : ℕ) → length ps ≡ length ws → position_from fails n ps ≡ Some k → Affected ws ps n k
  unfolding regain_lowest
  affected ws [] n k long e = cc
  affected [] (p ∷ ps) n k long e = absurd (omega arith)
  affected (w ∷ ws) (p ∷ ps) n k long e =
      (elim (test p) as (λ b. test p ≡ b → cond (not b) (Some n) (position_from fails (n + 1) ps) ≡ Some k → Affected (w ∷ ws) (p ∷ ps) n k) [
        | true ↦ λ passes h.
            let later = affected ws ps (n + 1) k (omega arith) h in
            record {
              place = suc later.place;
              is = omega arith;
              one_regains = λ v q. rw passes (ap (option_map (λ more. p ∷ more)) (later.one_regains v q) ∙ map_in_front p (λ more. set ps later.place more) (regained (get_or ws later.place v).state (get_or ps later.place q)));
            }
        | false ↦ λ fails h.
            let same : n ≡ k = cc in
            record {
              place = zero;
              is = omega arith;
              one_regains = λ v q. rw fails;
            }
      ]) refl e

module _ (d : ModelRecord) (dead : Row → Bool) (rows : List Row) (parts : List Row) where
  pub none_regains : (states : List Row) → None ≡ first_affected d dead rows parts → regain_once d dead rows states parts ≡ None
  unfolding first_affected regain_once
  none_regains states none = none_fails (keeps_with d dead rows parts) 0 states parts (sym none)

  module _ (listed : List Walked) (long : length parts ≡ length listed) (k : ℕ) where
    one_affected : first_affected d dead rows parts ≡ Some k → Affected (keeps_with d dead rows parts) listed parts 0 k
    unfolding first_affected
    one_affected found = affected (keeps_with d dead rows parts) listed parts 0 k long found

    module _ (w : Walked) (p : Row) (found : Some k ≡ first_affected d dead rows parts) where
      one_regains : regain_once d dead rows (states_of listed) parts ≡ option_map (λ more. set parts k more) (regained (get_or listed k w).state (get_or parts k p))
      unfolding regain_once
      one_regains =
          let one = one_affected (sym found) in
          let here : one.place ≡ k = omega arith in
          rw here at (one.one_regains w p)

      abbrev state : Row
      state = (get_or listed k w).state

      abbrev part : Row
      part = get_or parts k p

      pub is_regained : (i : ℕ) → Some i ≡ lowest_missing state part → regain_once d dead rows (states_of listed) parts ≡ Some (set parts k (with_entry_of state part i))
      unfolding regained
      is_regained i low = one_regains ∙ ap (λ o. option_map (λ more. set parts k more) (option_map (λ n. with_entry_of state part n) o)) (sym low)

      pub one_more : (i : ℕ) → Some i ≡ lowest_missing state part → is_some (regain_once d dead rows (states_of listed) parts) ≡ true
      one_more i low = ap (λ o. is_some o) (is_regained i low)

      pub is_whole : None ≡ lowest_missing state part → regain_once d dead rows (states_of listed) parts ≡ None
      unfolding regained
      is_whole none = one_regains ∙ ap (λ o. option_map (λ more. set parts k more) (option_map (λ n. with_entry_of state part n) o)) (sym none)
