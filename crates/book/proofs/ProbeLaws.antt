-- What a probe leaves of a book: rows of the model, none of them twice, that keep both rules.
use Rattle.std.proofs.Common.{◌≡◌, ◌≤◌, Bool, true, false, ◌&&◌, cond, List, ◌++◌, length, is_ok, Ok, Err, refl, sym, ap, inl, inr, ⊎_elim, arith}
use Rattle.std.specs.List.{list_all}
use Rattle.std.proofs.Math.ListN.{length-append}
use Rattle.std.proofs.lemmas.Bool.{and_parts, cond_both, or_cases, false≢true}
use Rattle.std.proofs.lemmas.Bool.Decides.{nat_tests}
use Rattle.model.specs.declared.row.Row.{Row}
use Rattle.model.specs.Limits.{row_fits, complete}
use Rattle.model.specs.Moves.{progression}
use Rattle.model.specs.RowLaws.{ContainmentIsReflexive}
use Rattle.model.specs.Records.{ModelRecord, Sealed, row_of_model, state_of_model}
use Rattle.model.specs.Rows.{same_row}
use Rattle.model.specs.Tables.{Answer}
use Rattle.model.proofs.Containment.{contained_reflexive}
use Rattle.model.proofs.WrongEntries.{checked_rows_fit}
use Rattle.model.specs.WrongEntries.{row_checked, RowsWithoutWrongEntriesFit}
use Rattle.first_come.specs.Arrivals.{Distinct}
use Rattle.walk.specs.declared.walked.Walked.{Walked}
use Rattle.walk.specs.Walks.{Outcome, planned, exhausted, no_place}
use Rattle.walk.specs.Answers.{places_used, states_of}
use Rattle.walk.specs.Laws.{ClosedUnderMoves}
use Rattle.walk.proofs.WalkLaws.{walk_tells, every_walk_has_room}
use Rattle.learning.proofs.LearnLaws.{learned_fit, learned_parts_keep_the_rules}
use Rattle.learning.specs.Learns.{learned}
use Rattle.learning.specs.Laws.{LearnedPartsKeepTheRules}
use Rattle.rules.specs.Rules.{covers, keeps_rules, KeepsBothRules}
use Rattle.lists.proofs.Members.{among_left, among_right, among_cases, all_from}
use Rattle.rules.proofs.Covering.{covering}
use Rattle.rules.proofs.RuleLaws.{rules_told, rules_hold}
use Rattle.book.specs.Adding.{fresh, overfull}
use Rattle.book.specs.Laws.{StaysLawful}
use Rattle.std.specs.Result.{result_and}
use Rattle.refusal.specs.declared.Refusal.TheVariants.{OpenEntry}
use Rattle.book.specs.Probes.{state_checked, parts_of, learn_rows, outcome_rows, walk_of, walks, probe_rows}
use Rattle.book.specs.Verdicts.{book_dead}
use Rattle.book.proofs.NoPlan.{row_of_state, stays_lawful}
use Rattle.book.proofs.OfferLaws.{fresh_fit, added_fit, added_once, added_rules}

-- States of which a walk over the book found no way out keep both rules with the book's rows.
module _ (d : ModelRecord) (gone : Row → Bool) (rows states : List Row) (rules : keeps_rules d gone rows ≡ true) (closed : ClosedUnderMoves d (book_dead d gone rows) states) where
  states_fit : list_all (row_of_model d) states ≡ true
  states_fit = all_from (row_of_model d) states (λ s a. row_of_state d s (closed.states_of_the_model s a))

  states_keep_the_rules : KeepsBothRules d gone (rows ++ states)
  unfolding ContainmentIsReflexive
  states_keep_the_rules =
      let own = rules_told d gone rows rules in
      record {
        each_row_disagrees_with_the_goal = λ r a. ⊎_elim (own.each_row_disagrees_with_the_goal r) (closed.none_meets_the_goal r) (among_cases rows states r a);
        no_move_leads_out = λ r a m among can. ⊎_elim
            (λ b. ⊎_elim inl (λ held. inr (held.0, among_left rows states held.0 held.1, held.2)) (own.no_move_leads_out r b m among can))
            (λ b. ⊎_elim
            (λ called. ⊎_elim inl
            (λ by_row. let found = covering rows (progression m r) (and_parts (row_of_model d (progression m r)) (covers rows (progression m r)) by_row).1 in inr (found.0, among_left rows states found.0 found.1, found.2))
            (or_cases (gone (progression m r)) _ called))
            (λ listed. inr (progression m r, among_right rows states (progression m r) listed, contained_reflexive (progression m r)))
            (closed.no_move_leads_away r b m among can))
            (among_cases rows states r a);
      }

-- Parts that are learned are added as rows of an offer are.
module _ (d : ModelRecord) (gone : Row → Bool) (rows : List Row) (listed : List Walked) where
  module _ (sealed : Sealed d) (fit : list_all (row_of_model d) (parts_of d gone rows listed) ≡ true) (both : keeps_rules d gone (rows ++ parts_of d gone rows listed) ≡ true) where
    pub learning_keeps_rules : keeps_rules d gone rows ≡ true → keeps_rules d gone (learn_rows d gone rows listed) ≡ true
    learning_keeps_rules rules = cond_both (overfull rows (parts_of d gone rows listed)) rows (rows ++ fresh rows (parts_of d gone rows listed)) (λ l. keeps_rules d gone l ≡ true) (λ _. rules) (λ _. added_rules d gone rows (parts_of d gone rows listed) both)

    pub learning_keeps_fit : list_all (row_of_model d) rows ≡ true → list_all (row_of_model d) (learn_rows d gone rows listed) ≡ true
    learning_keeps_fit own = cond_both (overfull rows (parts_of d gone rows listed)) rows (rows ++ fresh rows (parts_of d gone rows listed)) (λ l. list_all (row_of_model d) l ≡ true) (λ _. own) (λ _. added_fit d rows (parts_of d gone rows listed) own fit)

    pub learning_stays_lawful : StaysLawful d gone rows (learn_rows d gone rows listed)
    learning_stays_lawful = cond_both (overfull rows (parts_of d gone rows listed)) rows (rows ++ fresh rows (parts_of d gone rows listed)) (StaysLawful d gone rows)
        (λ _ lawful. lawful)
        (λ _. stays_lawful d gone rows (fresh rows (parts_of d gone rows listed)) sealed (fresh_fit d rows (parts_of d gone rows listed) fit) (added_rules d gone rows (parts_of d gone rows listed) both))

  pub learning_keeps_once : Distinct same_row rows → Distinct same_row (learn_rows d gone rows listed)
  learning_keeps_once once = cond_both (overfull rows (parts_of d gone rows listed)) rows (rows ++ fresh rows (parts_of d gone rows listed)) (Distinct same_row) (λ _. once) (λ _. added_once rows (parts_of d gone rows listed) once)

  pub learning_keeps_few : length rows ≤ 256 → length (learn_rows d gone rows listed) ≤ 256
  learning_keeps_few few = cond_both (overfull rows (parts_of d gone rows listed)) rows (rows ++ fresh rows (parts_of d gone rows listed)) (λ (l : List Row). length l ≤ 256) (λ _. few)
      (λ room. let sum = length-append rows (fresh rows (parts_of d gone rows listed)) in grind (arith, nat_tests))

both_asked : (a : Answer) (f c : Bool) → is_ok a ≡ f → is_ok (result_and a (cond {A = Answer} c (Ok tt) (Err OpenEntry))) ≡ true → (f && c) ≡ true
both_asked (Ok u) f true fits h = sym (ap (λ b. b && true) fits)
both_asked (Ok u) f false fits h = absurd (false≢true h)
both_asked (Err why) f c fits h = absurd (false≢true h)

-- a row that a probe does not refuse is a state of the model
pub checked_state : (d : ModelRecord) (t : Row) → is_ok (state_checked d.variables t) ≡ true → state_of_model d t ≡ true
unfolding RowsWithoutWrongEntriesFit
checked_state d t h = both_asked (row_checked d.variables t) (row_fits d.variables t) (complete d.variables t) (checked_rows_fit d.variables t) h

-- what every book keeps, and that the rows after an order keep it so
pub record Kept (d : ModelRecord) (gone : Row → Bool) (rows after : List Row) : Type 0 where
  pub few : length after ≤ 256
  pub fit : list_all (row_of_model d) after ≡ true
  pub once : Distinct same_row after
  pub rules : keeps_rules d gone after ≡ true
  pub lawful : StaysLawful d gone rows after

-- the parts of what is listed keep both rules where the listed states do
pub parts_keep_the_rules : LearnedPartsKeepTheRules → (d : ModelRecord) (gone : Row → Bool) (rows states : List Row) → keeps_rules d gone (rows ++ states) ≡ true → keeps_rules d gone (rows ++ learned d gone rows states) ≡ true
unfolding LearnedPartsKeepTheRules
parts_keep_the_rules law d gone rows states rules = rules_hold d gone (rows ++ learned d gone rows states) (law d gone rows states (rules_told d gone (rows ++ states) rules)).1

-- A walk from a state that ends without a plan lists what may be learned.
module _ (d : ModelRecord) (gone : Row → Bool) (sealed : Sealed d) (rows : List Row) (rules : keeps_rules d gone rows ≡ true) (t : Row) (state : state_of_model d t ≡ true) (work_list : List Walked) (ends : (walk_of d gone rows t work_list).outcome ≡ exhausted) where
  abbrev pub listed : List Walked
  listed = (walk_of d gone rows t work_list).listed

  closed : ClosedUnderMoves d (book_dead d gone rows) (states_of listed)
  unfolding walk_of
  closed = (walk_tells d (book_dead d gone rows) (places_used work_list) t sealed state).closed_without_plan ends

  pub listed_fit : list_all (row_of_model d) (states_of listed) ≡ true
  listed_fit = states_fit d gone rows (states_of listed) rules closed

  pub listed_keep_the_rules : keeps_rules d gone (rows ++ states_of listed) ≡ true
  listed_keep_the_rules = rules_hold d gone (rows ++ states_of listed) (states_keep_the_rules d gone rows (states_of listed) rules closed)

  pub listed_few : length listed ≤ 256
  unfolding walk_of
  listed_few = let room = every_walk_has_room d (book_dead d gone rows) (places_used work_list) t in omega (arith, room)

-- What a probe keeps.
module _ (d : ModelRecord) (gone : Row → Bool) (sealed : Sealed d) (rows : List Row) (few : length rows ≤ 256) (fit : list_all (row_of_model d) rows ≡ true) (once : Distinct same_row rows) (rules : keeps_rules d gone rows ≡ true) (t : Row) (work_list : List Walked) where
  as_it_was : Kept d gone rows rows
  as_it_was = record { few = few; fit = fit; once = once; rules = rules; lawful = λ laws. laws }

  came_to : state_of_model d t ≡ true → (outcome : Outcome) → (walk_of d gone rows t work_list).outcome ≡ outcome → Kept d gone rows (outcome_rows d gone rows (walk_of d gone rows t work_list).listed outcome)
  came_to state (planned ns) is = as_it_was
  came_to state no_place is = as_it_was
  came_to state exhausted is =
      let all : List Walked = (walk_of d gone rows t work_list).listed in
      let parts_fit = learned_fit d gone rows (states_of all) (listed_fit d gone sealed rows rules t state work_list is) in
      let both = parts_keep_the_rules learned_parts_keep_the_rules d gone rows (states_of all) (listed_keep_the_rules d gone sealed rows rules t state work_list is) in
      record {
        few = learning_keeps_few d gone rows all few;
        fit = learning_keeps_fit d gone rows all sealed parts_fit both fit;
        once = learning_keeps_once d gone rows all once;
        rules = learning_keeps_rules d gone rows all sealed parts_fit both rules;
        lawful = learning_stays_lawful d gone rows all sealed parts_fit both;
      }

  pub probe_keeps : Kept d gone rows (probe_rows d gone rows t work_list)
  probe_keeps = cond_both (walks d gone rows t) (outcome_rows d gone rows (walk_of d gone rows t work_list).listed (walk_of d gone rows t work_list).outcome) rows (Kept d gone rows)
      (λ walked. came_to (checked_state d t (and_parts (is_ok (state_checked d.variables t)) _ walked).0) (walk_of d gone rows t work_list).outcome refl)
      (λ _. as_it_was)
