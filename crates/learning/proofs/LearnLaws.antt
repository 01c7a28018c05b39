-- The learned parts keep the rules.
use Rattle.std.proofs.Common.{◌≡◌, ℕ, ◌≤◌, zero, suc, Bool, true, List, ◌++◌, length, Some, None, refl, ap, ◌∙◌, ⊎_elim, arith}
use Rattle.std.specs.List.{list_all}
use Rattle.std.specs.Option.{option_map_or}
use Rattle.model.specs.declared.row.Row.{Row}
use Rattle.model.specs.RowLaws.{ContainmentIsTransitive}
use Rattle.lists.specs.Members.{Among}
use Rattle.model.specs.Records.{ModelRecord, row_of_model}
use Rattle.lists.proofs.Members.{all_among, among_left, among_right, among_cases, all_from}
use Rattle.model.proofs.Containment.{contained_transitive}
use Rattle.rules.specs.Rules.{covers, keeps_rule_1, keeps_rule_2}
use Rattle.rules.proofs.Covering.{covering, covered}
use Rattle.rules.proofs.RuleLaws.{rule_2_where_covered, rules_at, rules_from, rules_told, rules_hold}
use Rattle.learning.specs.Learns.{first_parts, keeps_with, regain_once, most_regained, regain, learned}
use Rattle.learning.specs.Laws.{PartsOf, LearnedPartsKeepTheRules, NoneIsLeftToRegain}
use Rattle.learning.proofs.Gaining.{nothing_missing}
use Rattle.learning.proofs.StatesAndParts.{parts_counted, parts_fit, part_of_state, to_regain, most_to_regain, parts_at_first, apart_at_first, OneRegains, lowest_regains, parts_regained, apart_regained, fewer_to_regain, all_pass}

module _ (d : ModelRecord) (dead : Row → Bool) (rows states : List Row) where
  -- where an entry is regained, one part gains it
  pub once_regained : (ps next : List Row) → regain_once d dead rows states ps ≡ Some next → OneRegains states ps next
  unfolding regain_once
  once_regained ps next is = lowest_regains (keeps_with d dead rows ps) states ps next is

  -- what each entry that is regained keeps is kept in the end
  regain_keeps : (P : List Row → Type 0) → ((ps next : List Row) → OneRegains states ps next → P ps → P next) → (n : ℕ) (ps : List Row) → P ps → P (regain d dead rows states n ps)
  unfolding regain
  regain_keeps P step zero ps h = h
  regain_keeps P step (suc n) ps h =
      (elim (regain_once d dead rows states ps) as (λ o. regain_once d dead rows states ps ≡ o → P (option_map_or (λ more. regain d dead rows states n more) o ps)) [
        | Some next ↦ λ is. regain_keeps P step n next (step ps next (once_regained ps next is) h)
        | None ↦ λ _. h
      ]) refl

  -- if as many may be regained as are left, none is left in the end
  regain_ends : (n : ℕ) (ps : List Row) → to_regain states ps ≤ n → regain_once d dead rows states (regain d dead rows states n ps) ≡ None
  unfolding regain
  regain_ends zero ps few =
      (elim (regain_once d dead rows states ps) as (λ o. regain_once d dead rows states ps ≡ o → o ≡ None) [
        | Some next ↦ λ is. absurd (let less = fewer_to_regain states ps next (once_regained ps next is) in let none : ⊥ = omega arith in none)
        | None ↦ λ _. refl
      ]) refl
  regain_ends (suc n) ps few =
      (elim (regain_once d dead rows states ps) as (λ o. regain_once d dead rows states ps ≡ o → regain_once d dead rows states (option_map_or (λ more. regain d dead rows states n more) o ps) ≡ None) [
        | Some next ↦ λ is. let less = fewer_to_regain states ps next (once_regained ps next is) in regain_ends n next (omega arith)
        | None ↦ λ is. is
      ]) refl

  -- which are 32 of each state at most
  pub learned_done : regain_once d dead rows states (learned d dead rows states) ≡ None
  unfolding learned
  learned_done = regain_ends (most_regained states) (first_parts d states) (most_to_regain states (first_parts d states))

  -- each learned part is contained in its state
  pub learned_parts : PartsOf states (learned d dead rows states)
  unfolding learned
  learned_parts =
      regain_keeps (PartsOf states) (λ ps next one. parts_regained states ps next one) (most_regained states) (first_parts d states) (parts_at_first d states)

  pub learned_counted : length (learned d dead rows states) ≡ length states
  learned_counted = parts_counted states (learned d dead rows states) learned_parts

  -- and is a row of the model, where the states are
  pub learned_fit : list_all (row_of_model d) states ≡ true → list_all (row_of_model d) (learned d dead rows states) ≡ true
  learned_fit fit = parts_fit d states (learned d dead rows states) learned_parts fit

  -- and disagrees with the goal, where the states do
  pub learned_apart : list_all (keeps_rule_1 d) states ≡ true → list_all (keeps_rule_1 d) (learned d dead rows states) ≡ true
  unfolding learned
  learned_apart h =
      regain_keeps (λ ps. list_all (keeps_rule_1 d) ps ≡ true) (λ ps next one. apart_regained d states ps next one) (most_regained states) (first_parts d states) (apart_at_first d states h)

  -- the book's rows with parts of states cover what they cover with the states
  parts_cover : (ps : List Row) → PartsOf states ps → (t : Row) → covers (rows ++ states) t ≡ true → covers (rows ++ ps) t ≡ true
  unfolding ContainmentIsTransitive
  parts_cover ps e t h =
      let found = covering (rows ++ states) t h in
      ⊎_elim
      (λ old. covered (rows ++ ps) t found.0 (among_left rows ps found.0 old) found.2)
      (λ new. let part = part_of_state states ps e found.0 new in covered (rows ++ ps) t part.0 (among_right rows ps part.0 part.1) (contained_transitive part.0 found.0 t part.2 found.2))
      (among_cases rows states found.0 found.1)

  module _ (keep : (r : Row) → Among (rows ++ states) r → keeps_rule_2 d dead (rows ++ states) r ≡ true) where
    -- so rows and whole states keep rule 2 with any parts
    still_kept : (ps : List Row) → PartsOf states ps → (r : Row) → Among (rows ++ states) r → keeps_with d dead rows ps r ≡ true
    still_kept ps e r a = rule_2_where_covered d dead (rows ++ states) r (rows ++ ps) (parts_cover ps e) (keep r a)

    -- a part that is its whole state does, and so every learned part does
    pub learned_kept : list_all (keeps_with d dead rows (learned d dead rows states)) (learned d dead rows states) ≡ true
    unfolding regain_once
    learned_kept =
        let new = learned d dead rows states in
        all_pass (keeps_with d dead rows new) states new learned_parts
        (λ s p a within none. ap (keeps_with d dead rows new) (nothing_missing s p within none) ∙ still_kept new learned_parts s (among_right rows states s a)) learned_done

pub none_is_left_to_regain : NoneIsLeftToRegain
unfolding NoneIsLeftToRegain
none_is_left_to_regain d dead rows states = learned_done d dead rows states

pub learned_parts_keep_the_rules : LearnedPartsKeepTheRules
unfolding LearnedPartsKeepTheRules
learned_parts_keep_the_rules d dead rows states both =
    let set = rows ++ states in
    let new = learned d dead rows states in
    let own = rules_at d dead set (rules_hold d dead set both) in
    let keep : (r : Row) → Among set r → keeps_rule_2 d dead set r ≡ true = λ r a. (own r a).1 in
    let apart = learned_apart d dead rows states (all_from (keeps_rule_1 d) states (λ s a. (own s (among_right rows states s a)).0)) in
    let parts = learned_parts d dead rows states in (
      parts,
      rules_told d dead (rows ++ new) (rules_from d dead (rows ++ new) (λ r a. ⊎_elim
          (λ old. let among = among_left rows states r old in ((own r among).0, still_kept d dead rows states keep new parts r among))
          (λ among. (all_among (keeps_rule_1 d) new r apart among, all_among (keeps_with d dead rows new) new r (learned_kept d dead rows states keep) among))
          (among_cases rows new r a))),
    )
