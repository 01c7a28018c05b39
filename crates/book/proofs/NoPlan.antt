-- Rows that keep both rules over a lawful detector are dead, and so a book is lawful.
use Rattle.std.proofs.Common.{◌≡◌, ℕ, Bool, true, false, ◌&&◌, ◌||◌, List, [], ◌∷◌, ◌++◌, sym, refl, ◌∙◌, subst, ⊎_elim}
use Rattle.std.proofs.lemmas.Bool.{and_parts, and_from, or_cases, or_left, or_right}
use Rattle.std.specs.List.{list_all}
use Rattle.model.specs.declared.row.Row.{Row}
use Rattle.model.specs.Limits.{move_fits, complete}
use Rattle.lists.specs.Members.{Among}
use Rattle.model.specs.MoveLaws.{SmallerRowKeepsMovesApplicable, SmallerRowHasSmallerProgression}
use Rattle.model.specs.Moves.{progression}
use Rattle.model.specs.Plans.{Plan}
use Rattle.model.specs.Records.{ModelRecord, Sealed, row_of_model, state_of_model}
use Rattle.model.specs.RowLaws.{ContainmentIsTransitive}
use Rattle.model.specs.Rows.{contained}
use Rattle.model.proofs.Containment.{contained_transitive, contains_no_two}
use Rattle.lists.proofs.Members.{nth_among, all_among, among_right}
use Rattle.model.proofs.Progressions.{smaller_applicable, smaller_progression, state_progresses}
use Rattle.detector.specs.Laws.{Lawful, EqualMeaning, EqualMeaningKeepsTheLaws}
use Rattle.detector.proofs.EqualMeaning.{keeps_the_laws}
use Rattle.book.specs.Laws.{NoStateWithARowOfTheSetHasAPlan, BookIsLawful, StaysLawful}
use Rattle.rules.specs.Rules.{covers, keeps_rules, KeepsBothRules}
use Rattle.book.specs.Verdicts.{book_dead}
use Rattle.rules.proofs.Covering.{covering, covered, covers_both}
use Rattle.rules.proofs.RuleLaws.{rules_at, rules_from, rules_told, rule_2_at, rule_2_from}
use Rattle.book.proofs.InTheBook.{rule_2_in_the_book}

pub row_of_state : (d : ModelRecord) (s : Row) → state_of_model d s ≡ true → row_of_model d s ≡ true
row_of_state d s state = (and_parts (row_of_model d s) (complete d.variables s) state).0

module _ (d : ModelRecord) (dead : Row → Bool) (set : List Row) (sealed : Sealed d) (laws : Lawful d dead) (both : KeepsBothRules d dead set) where
  -- by the length of the plan: where it goes on, its next state is dead, or contains a row of the set again
  no_plan : (ns : List ℕ) (r s : Row) → Among set r → state_of_model d s ≡ true → contained r s ≡ true → Plan d s ns → ⊥
  unfolding ContainmentIsTransitive SmallerRowKeepsMovesApplicable SmallerRowHasSmallerProgression
  no_plan [] r s among state within plan =
      contains_no_two r d.goal plan.0 (both.each_row_disagrees_with_the_goal r among) (subst (λ u. contained r u ≡ true) plan.1 within) plan.2
  no_plan (n ∷ ns) r s among state within plan =
      let way = plan.1 in
      let m = way.0 in
      let own = nth_among d.moves n m way.1 in
      let next = state_progresses d m s (all_among (move_fits d.variables) d.moves m sealed.move_values_below_sizes own) state in
      let grows = smaller_progression m r s within way.2 in
      let later : Plan d (progression m s) ns = (plan.0, way.3, plan.2) in
      ⊎_elim
      (λ gone. laws.dead_states_have_no_plan (progression m s) next (laws.containing_rows_are_dead (progression m r) (progression m s) gone (row_of_state d (progression m s) next) grows) ns later)
      (λ held. no_plan ns held.0 (progression m s) held.1 next (contained_transitive held.0 (progression m r) (progression m s) held.2 grows) later)
      (both.no_move_leads_out r among m own (smaller_applicable m r s within way.2))

pub no_state_has_a_plan : NoStateWithARowOfTheSetHasAPlan
unfolding NoStateWithARowOfTheSetHasAPlan
no_state_has_a_plan d dead set sealed laws both r s among state within ns plan = no_plan d dead set sealed laws both ns r s among state within plan

pub book_lawful : (d : ModelRecord) (dead : Row → Bool) (rows : List Row) → Sealed d → keeps_rules d dead rows ≡ true → BookIsLawful d dead rows
unfolding ContainmentIsTransitive
book_lawful d dead rows sealed rules laws = record {
  containing_rows_are_dead = λ r t called fits within. ⊎_elim
      (λ gone. or_left (dead t) (row_of_model d t && covers rows t) (laws.containing_rows_are_dead r t gone fits within))
      (λ own.
      let found = covering rows r (and_parts (row_of_model d r) (covers rows r) own).1 in
      or_right (dead t) (row_of_model d t && covers rows t)
      (and_from (row_of_model d t) (covers rows t) fits (covered rows t found.0 found.1 (contained_transitive found.0 r t found.2 within))))
      (or_cases (dead r) (row_of_model d r && covers rows r) called);
  dead_states_have_no_plan = λ s state called ns plan. ⊎_elim
      (λ gone. laws.dead_states_have_no_plan s state gone ns plan)
      (λ own.
      let found = covering rows s (and_parts (row_of_model d s) (covers rows s) own).1 in
      no_plan d dead rows sealed laws (rules_told d dead rows rules) ns found.0 s found.1 state found.2 plan)
      (or_cases (dead s) (row_of_model d s && covers rows s) called);
}

-- a book with more rows, opened over the book with these rows
module _ (d : ModelRecord) (dead : Row → Bool) (rows more : List Row) where
  one_book : (q f b c e : Bool) → e ≡ (b || c) → ((q || (f && b)) || (f && c)) ≡ (q || (f && e))
  one_book true f b c e h = refl
  one_book false true b c e h = sym h
  one_book false false b c e h = refl

  -- calls dead what one book with all the rows does
  pub book_in_two : EqualMeaning d d (book_dead d (book_dead d dead rows) more) (book_dead d dead (rows ++ more))
  book_in_two = record {
    same_model = refl;
    same_dead_rows = λ t _. one_book (dead t) (row_of_model d t) (covers rows t) (covers more t) (covers (rows ++ more) t) (covers_both rows more t);
  }

  -- and its rows keep both rules over the book with these rows
  pub rules_in_the_book : Sealed d → list_all (row_of_model d) more ≡ true → keeps_rules d dead (rows ++ more) ≡ true → keeps_rules d (book_dead d dead rows) more ≡ true
  rules_in_the_book sealed fit rules = rules_from d (book_dead d dead rows) more (λ r a.
      let own = rules_at d dead (rows ++ more) rules r (among_right rows more r a) in (
        own.0,
        rule_2_from d (book_dead d dead rows) more r (λ m among.
            rule_2_in_the_book d dead rows more sealed r (all_among (row_of_model d) more r fit a) m among ∙ rule_2_at d dead (rows ++ more) r own.1 m among),
      ))

pub stays_lawful : (d : ModelRecord) (dead : Row → Bool) (rows new : List Row) → Sealed d → list_all (row_of_model d) new ≡ true → keeps_rules d dead (rows ++ new) ≡ true → StaysLawful d dead rows (rows ++ new)
unfolding EqualMeaningKeepsTheLaws
stays_lawful d dead rows new sealed fit rules laws =
    keeps_the_laws d d (book_dead d (book_dead d dead rows) new) (book_dead d dead (rows ++ new)) (book_in_two d dead rows new)
    (book_lawful d (book_dead d dead rows) new sealed (rules_in_the_book d dead rows new sealed fit rules) laws)
