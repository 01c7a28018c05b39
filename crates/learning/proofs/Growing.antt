-- What stays known when a part grows.
use Rattle.std.proofs.Common.{◌≡◌, ◌≢◌, ℕ, ◌+◌, ◌<◌, ◌≤◌, ◌==◌, Bool, true, false, cond, List, ◌++◌, length, get_or, set, Some, Option, refl, sym, ap, subst, ◌∙◌, ⊎_elim, arith, length-set}
use Rattle.std.proofs.lemmas.Bool.{cases_eq, cases_lt, cond_both, both_ways, or_cases, or_left, or_right, eqb-true, eqb-false}
use Rattle.std.proofs.lemmas.List.{get_or_default, get_or-set_same, get_or-set_other}
use Rattle.model.specs.declared.row.Row.{Row}
use Rattle.model.specs.declared.moves.Move.{Move}
use Rattle.model.specs.Rows.{at, open_row, keeps, contained}
use Rattle.model.specs.Moves.{next_entry, applicable, progression}
use Rattle.model.specs.RowLaws.{ContainmentIsReflexive, ContainmentIsTransitive}
use Rattle.model.specs.MoveLaws.{SmallerRowKeepsMovesApplicable, SmallerRowHasSmallerProgression}
use Rattle.model.specs.Records.{ModelRecord}
use Rattle.model.proofs.Containment.{contained_reflexive, contained_transitive}
use Rattle.model.proofs.Progressions.{smaller_applicable, smaller_progression}
use Rattle.model.proofs.RowFacts.{at_row_of}
use Rattle.rules.specs.Rules.{covers, stays_in}
use Rattle.rules.proofs.Covering.{covers_both}
use Rattle.rules.proofs.RuleLaws.{stays_at, stays_from}
use Rattle.learning.specs.declared.standing.Standing.{Standing}
use Rattle.learning.specs.declared.standing.Standing.TheVariants.{Unknown, Stays, Covered, Dead, LeadsOut}
use Rattle.learning.specs.declared.standing.Growth.{Growth}
use Rattle.learning.specs.declared.standings.Standings.{Standings}
use Rattle.learning.specs.Standings.{Stands, gives_entry, after_growth, standing_at, with_standing, none_known, AllStand, Grown, TableStands, TableGrown}
use Rattle.learning.specs.Parts.{missing, lowest_missing, with_entry_of}
use Rattle.learning.proofs.Lowest.{lowest_found}
use Rattle.learning.proofs.Gaining.{gained_more, gained_in}
use Rattle.learning.proofs.StandingFacts.{same_item, at_other, at_same, at_past}
use Rattle.learning.proofs.Covering.{larger_covered, no_more_covered}

-- the standings of a part to the moves before the i-th have changed
module _ (moves : List Move) (g : Growth) (itself : Bool) (p : Row) (s now : Standings) (i : ℕ)
    (so_far : (n : ℕ) (m : Move) → n < i → m ≡ get_or moves n m → standing_at now n ≡ after_growth g itself p m (standing_at s n)) where
  pub all_grown : length moves ≤ i → Grown moves g itself p s now
  unfolding Grown
  all_grown long = λ n m within read. so_far n m (omega arith) read

  module _ (others : (n : ℕ) → i ≤ n → standing_at now n ≡ standing_at s n) (within : i < length moves) (m : Move) (read : m ≡ get_or moves i m) where
    put_there : standing_at (with_standing now i (after_growth g itself p m (standing_at now i))) i ≡ after_growth g itself p m (standing_at s i)
    put_there = ⊎_elim
        (λ (few : i < 128). at_same now i (after_growth g itself p m (standing_at now i)) few ∙ ap (after_growth g itself p m) (others i (omega arith)))
        (λ (many : 128 ≤ i). at_past (with_standing now i (after_growth g itself p m (standing_at now i))) i many ∙ ap (after_growth g itself p m) (sym (at_past s i many)))
        (cases_lt i 128)

    pub one_more_grown : (next : Standings) → next ≡ with_standing now i (after_growth g itself p m (standing_at now i))
        → ((n : ℕ) (q : Move) → n < i + 1 → q ≡ get_or moves n q → standing_at next n ≡ after_growth g itself p q (standing_at s n)) × ((n : ℕ) → i + 1 ≤ n → standing_at next n ≡ standing_at s n)
    one_more_grown next put = (
      λ n q below is. ⊎_elim
          (λ (same : n ≡ i).
          let one : m ≡ q = same_item moves i m q within read (rw same at is) in
          rw (put, same, ← one) put_there)
          (λ (other : n ≢ i). rw put (at_other now i n (after_growth g itself p m (standing_at now i)) other ∙ so_far n q (omega arith) is))
          (cases_eq n i),
      λ n above. rw put (at_other now i n (after_growth g itself p m (standing_at now i)) (λ same. (let none : ⊥ = omega arith in none)) ∙ others n (omega arith)),
    )

-- a move that stays in with parts that cover no more stays in
false_before : (more fewer : Bool) → (fewer ≡ true → more ≡ true) → more ≡ false → fewer ≡ false
false_before more true h none = absurd (both_ways more none (h refl))
false_before more false h none = refl

-- The part at a place grows from `old` to `more`, by an entry of a variable.
module _ (dead : Row → Bool) (rows parts : List Row) (g : Growth) (old more : Row) (there : g.place < length parts) (read : old ≡ get_or parts g.place old) (variable : g.variable < 32)
    (grew : contained old more ≡ true) (gained : (t : Row) → contained old t ≡ true → keeps g.entry (at t g.variable) ≡ true → contained more t ≡ true) where
  abbrev parts_now : List Row
  parts_now = set parts g.place more

  fewer_stay : (p : Row) (m : Move) → stays_in dead (rows ++ parts_now) p m ≡ true → stays_in dead (rows ++ parts) p m ≡ true
  fewer_stay p m h =
      let t = progression m p in
      stays_from dead (rows ++ parts) p m (λ can. ⊎_elim
      (λ gone. or_left (dead t) (covers (rows ++ parts) t) gone)
      (λ held. or_right (dead t) (covers (rows ++ parts) t) (covers_both rows parts t ∙ ⊎_elim
      (λ own. or_left (covers rows t) (covers parts t) own)
      (λ new. or_right (covers rows t) (covers parts t) (no_more_covered parts g.place old more t read grew new))
      (or_cases (covers rows t) (covers parts_now t) (sym (covers_both rows parts_now t) ∙ held))))
      (or_cases (dead t) (covers (rows ++ parts_now) t) (stays_at dead (rows ++ parts_now) p m h can)))

  -- a part that was p, and is as it was unless it is itself the one that grew
  module _ (m : Move) (p now : Row) (itself : Bool) (larger : contained p now ≡ true) (unless : itself ≡ false → p ≡ now) where
    smaller : applicable m now ≡ true → (applicable m p ≡ true) × (contained (progression m p) (progression m now) ≡ true)
    unfolding SmallerRowKeepsMovesApplicable SmallerRowHasSmallerProgression
    smaller can = (smaller_applicable m p now larger can, smaller_progression m p now larger can)

    abbrev Right : Standing → Type 0
    Right st = Stands dead rows parts_now now m st

    still_covered : (k : ℕ) → Stands dead rows parts p m (Covered k) → k ≡ g.place → gives_entry g now m ≡ true → Right (Covered k)
    unfolding ContainmentIsTransitive
    still_covered k h same gives = λ can.
        let t = progression m now in
        let before = smaller can in
        let at_k : get_or parts k open_row ≡ old = ap (λ j. get_or parts j open_row) same ∙ get_or_default parts g.place open_row old there ∙ sym read in
        let held : contained old t ≡ true = contained_transitive old (progression m p) t (subst (λ r. contained r (progression m p) ≡ true) at_k (h before.0).1) before.1 in
        let in_more : contained more t ≡ true = gained t held (ap (keeps g.entry) (at_row_of (next_entry m now) g.variable variable) ∙ gives) in
        (omega (arith, length-set parts g.place more), ap (λ r. contained r t) (ap (λ j. get_or parts_now j open_row) same ∙ get_or-set_same parts g.place more open_row there) ∙ in_more)

    covered_by_other : (k : ℕ) → Stands dead rows parts p m (Covered k) → k ≢ g.place → Right (Covered k)
    unfolding ContainmentIsTransitive
    covered_by_other k h other = λ can.
        let before = smaller can in
        let cover = get_or parts k open_row in (
          omega (arith, length-set parts g.place more, (h before.0).0),
          ap (λ r. contained r (progression m now)) (get_or-set_other parts g.place k more open_row other) ∙ contained_transitive cover (progression m p) (progression m now) (h before.0).1 before.1,
        )

    where_unchanged : (st : Standing) → (p ≡ now → Right st) → Right (cond itself (Unknown 0) st)
    where_unchanged st h = cond_both itself (Unknown 0) st Right (λ _. tt) (λ no. h (unless no))

    pub stands_after : (st : Standing) → Stands dead rows parts p m st → Right (after_growth g itself now m st)
    stands_after (Unknown k) h = tt
    stands_after Stays h = λ can. larger_covered rows (progression m p) (progression m now) (smaller can).1 (h (smaller can).0)
    stands_after (Covered k) h =
        cond_both (k == g.place) (cond (gives_entry g now m) (Covered k) (Unknown k)) (Covered k) Right
        (λ same. cond_both (gives_entry g now m) (Covered k) (Unknown k) Right (still_covered k h (eqb-true k g.place same)) (λ _. tt))
        (λ other. covered_by_other k h (eqb-false k g.place other))
    stands_after Dead h = where_unchanged Dead (λ same. subst (λ r. Stands dead rows parts r m Dead) same h)
    stands_after LeadsOut h = where_unchanged LeadsOut (λ same. subst (λ r. stays_in dead (rows ++ parts_now) r m ≡ false) same
        (false_before (stays_in dead (rows ++ parts) p m) (stays_in dead (rows ++ parts_now) p m) (fewer_stay p m) h))

  -- and so the table stays right
  module _ (d : ModelRecord) (table next : List Standings) (right : TableStands d dead rows parts table) (known : TableGrown d.moves parts_now g table next) where
    all_stand_after : (k : ℕ) (p now : Row) → k < length parts → p ≡ get_or parts k p → now ≡ get_or parts_now k now → contained p now ≡ true → ((k == g.place) ≡ false → p ≡ now)
        → AllStand d dead rows parts_now now (get_or next k none_known)
    unfolding TableStands TableGrown Grown AllStand
    all_stand_after k p now below was is larger unless = λ n m within own.
        let before = right k p below was n m within own in
        let after = known k now (omega (arith, length-set parts g.place more)) is n m within own in
        subst (Stands dead rows parts_now now m) (sym after)
        (stands_after m p now (k == g.place) larger unless (standing_at (get_or table k none_known) n) before)

    pub table_after : TableStands d dead rows parts_now next
    unfolding TableStands ContainmentIsReflexive
    table_after = λ k now below is. ⊎_elim
        (λ (same : k ≡ g.place).
        let one : now ≡ more = rw (same, get_or-set_same parts g.place more now there) at is in
        all_stand_after k old now (omega (arith, length-set parts g.place more)) (rw same read) is (subst (λ r. contained old r ≡ true) (sym one) grew)
        (λ no. absurd (eqb-false k g.place no same)))
        (λ (other : k ≢ g.place).
        let was : now ≡ get_or parts k now = is ∙ get_or-set_other parts g.place k more now other in
        all_stand_after k now now (omega (arith, length-set parts g.place more)) was is (contained_reflexive now) (λ _. refl))
        (cases_eq k g.place)

-- the part of a state at a place gains its lowest missing variable
module _ (d : ModelRecord) (dead : Row → Bool) (rows parts : List Row) (table next : List Standings) (right : TableStands d dead rows parts table) (state part : Row) (k i : ℕ)
    (there : k < length parts) (read : part ≡ get_or parts k part) (low : Some i ≡ lowest_missing state part) where
  pub table_regained : (more : Row) → more ≡ with_entry_of state part i → (e : Option ℕ) → e ≡ at state i → (moves : List Move) → moves ≡ d.moves
      → TableGrown moves (set parts k more) (record { place = k; variable = i; entry = e }) table next → TableStands d dead rows (set parts k more) next
  table_regained more is e told moves of_model known =
      let found = lowest_found (missing state part) i (sym low) in
      let gained = with_entry_of state part i in
      let growth : Growth = record { place = k; variable = i; entry = at state i } in
      let grown : TableGrown d.moves (set parts k gained) growth table next =
      subst (λ (ms : List Move). TableGrown ms (set parts k gained) growth table next) of_model
      (subst (λ (v : Option ℕ). TableGrown moves (set parts k gained) (record { place = k; variable = i; entry = v }) table next) told
      (subst (λ (r : Row). TableGrown moves (set parts k r) (record { place = k; variable = i; entry = e }) table next) is known)) in
      subst (λ (r : Row). TableStands d dead rows (set parts k r) next) (sym is)
      (table_after dead rows parts growth part gained there read found.1 (gained_more state part i found.0) (gained_in state part i found.0 found.1) d table next right grown)
