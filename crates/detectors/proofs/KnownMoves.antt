-- What is known of moves stays so while facts are listed, and spares looking again.
use Rattle.std.proofs.Common.{◌≡◌, ℕ, ◌<◌, ◌≤◌, Bool, true, false, List, [], ◌∷◌, length, replicate, get_or, set, ◌≢◌, Some, None, Option, sym, refl, ap, ◌∙◌, subst, ⊎_elim, arith}
use Rattle.std.proofs.lemmas.Bool.{cond-true, cond-false, false_from_ne_true, cond_both, cases_eq, cases_lt, or_left, or_right, ltb-true, both_ways}
use Rattle.std.proofs.lemmas.List.{get_or-set_same, get_or-set_other, get_or-replicate, get_or_past, length-replicate}
use Rattle.std.proofs.lemmas.Option.{slice_get_read}
use Rattle.std.specs.List.{slice_get}
use Rattle.first_come.specs.Arrivals.{Kept, arrived, has, keep, keep_all}
use Rattle.first_come.proofs.Arrivals.{put_cases, arrived_next}
use Rattle.first_come.proofs.Listings.{has_left, through_all, Holds, holds_on, holds_each}
use Rattle.model.specs.declared.moves.Move.{Move}
use Rattle.model.specs.Rows.{at}
use Rattle.lists.proofs.BelowFacts.{all_below_decides}
use Rattle.detectors.specs.declared.relaxed.fact.Fact.{Fact}
use Rattle.detectors.specs.Facts.{fact_of, same_fact, given_facts, entry_reached, all_reached}
use Rattle.detectors.specs.Closure.{try_move}
use Rattle.detectors.specs.KnownMoves.{ReachedAt, Known, EachKnown, Tried, ReachedUpTo}
use Rattle.detectors.specs.SameFacts.{fact_self, fact_equal}

abbrev Held : Kept Fact → Fact → Type 0
Held k f = Holds same_fact fact_self fact_equal f k

-- where each fact came already, listing them changes nothing
kept_as_it_is : (k : Kept Fact) (fs : List Fact) → ((f : Fact) → has same_fact fs f ≡ true → Held k f) → keep_all same_fact k fs ≡ k
kept_as_it_is k [] held = refl
kept_as_it_is k (f ∷ fs) held =
    let still : keep same_fact k f ≡ k = ⊎_elim
    (λ there. cond-true (has same_fact (arrived k) f) _ _ there)
    (λ full. put_cases k f (λ n. n ≡ k) (has same_fact (arrived k) f) (λ _. refl) (λ _ room. absurd (omega (arith, ltb-true k.len (length k.places) room, full))) (λ _ _. refl))
    (held f (or_left (same_fact f f) (has same_fact fs f) (fact_self f))) in
    ap (λ n. keep_all same_fact n fs) still ∙ kept_as_it_is k fs (λ g h. held g (or_right (same_fact f g) (has same_fact fs g) h))

-- what is listed stays listed
listed_on : (k : Kept Fact) (x f : Fact) → has same_fact (arrived k) f ≡ true → has same_fact (arrived (keep same_fact k x)) f ≡ true
listed_on k x f h =
    put_cases k x (λ n. has same_fact (arrived n) f ≡ true) (has same_fact (arrived k) x) (λ _. h)
    (λ _ room. rw (arrived_next k x room) (has_left same_fact (arrived k) (x ∷ []) f h)) (λ _ _. h)

reached_on : (k : Kept Fact) (x : Fact) (v : ℕ) (e : Option ℕ) → entry_reached (arrived k) v e ≡ true → entry_reached (arrived (keep same_fact k x)) v e ≡ true
reached_on k x v None h = refl
reached_on k x v (Some y) h = listed_on k x (fact_of v y) h

known_keep : (m : Move) (n : ℕ) (k : Kept Fact) (x : Fact) → Known k m n → Known (keep same_fact k x) m n
known_keep m n k x known = record {
  reached = λ v l. reached_on k x v (at m.conditions v) (known.reached v l);
  listed = λ all f h. holds_on same_fact fact_self fact_equal f k x (known.listed all f h);
}

known_list : (m : Move) (n : ℕ) (k : Kept Fact) (fs : List Fact) → Known k m n → Known (keep_all same_fact k fs) m n
known_list m n = through_all same_fact (λ k. Known k m n) (known_keep m n)

-- what is known of a move stays so when another is tried
pub known_on : (m o : Move) (n : ℕ) (k : Kept Fact) → Known k m n → Known (try_move k o) m n
known_on m o n k known =
    cond_both (all_reached (arrived k) o.conditions) _ _ (λ p. Known p m n) (λ _. known_list m n k (given_facts o.effects) known) (λ _. known)

-- of no condition
pub known_none : (k : Kept Fact) (m : Move) → Known k m 0
known_none k m = record { reached = λ v l. absurd (omega (arith, l)); listed = λ l. absurd (omega (arith, l)) }

module _ (k : Kept Fact) (m : Move) where
  abbrev here : ℕ → Bool
  here v = entry_reached (arrived k) v (at m.conditions v)

  all_known : (n : ℕ) → 32 ≤ n → Known k m n → all_reached (arrived k) m.conditions ≡ true
  all_known n all known = (all_below_decides here 32).1 (λ v l. known.reached v (omega (arith, l, all)))

  -- a move that was done is tried in vain
  pub tried_before : (n : ℕ) → 32 ≤ n → Known k m n → Tried k m k n
  tried_before n all known = record {
    facts = sym (cond-true (all_reached (arrived k) m.conditions) _ _ (all_known n all known) ∙ kept_as_it_is k (given_facts m.effects) (known.listed all));
    known = known;
  }

  module _ (n r : ℕ) (known : Known k m n) (upto : ReachedUpTo k m.conditions n r) where
    reached_before : (v : ℕ) → v < r → ReachedAt k m.conditions v
    reached_before v l = ⊎_elim (λ (b : v < n). known.reached v b) (λ (a : n ≤ v). upto.reached v a l) (cases_lt v n)

    -- and so is one of which a condition is not reached
    pub tried_in_vain : r < 32 → Tried k m k r
    tried_in_vain l = record {
      facts = sym (cond-false (all_reached (arrived k) m.conditions) _ _ not_all);
      known = record { reached = reached_before; listed = λ all. absurd (omega (arith, l, all)) };
    }
      where
        not_all : all_reached (arrived k) m.conditions ≡ false
        not_all =
            false_from_ne_true (all_reached (arrived k) m.conditions) (λ all. both_ways (here r) (upto.stops l) ((all_below_decides here 32).0 all r l))

    -- where all are reached, the effects are listed
    pub tried_now : (after : Kept Fact) → r ≡ 32 → after ≡ keep_all same_fact k (given_facts m.effects) → Tried k m after r
    tried_now after all is = record {
      facts = is ∙ sym (cond-true (all_reached (arrived k) m.conditions) _ _ ((all_below_decides here 32).1 (λ v l. reached_before v (omega (arith, l, all)))));
      known = subst (λ p. Known p m r) (sym is) (record {
        reached = λ v l. through_all same_fact (λ p. ReachedAt p m.conditions v) (λ p x. reached_on p x v (at m.conditions v)) k (given_facts m.effects) (reached_before v l);
        listed = λ _ f h. holds_each same_fact fact_self fact_equal k (given_facts m.effects) f h;
      });
    }

-- each move, when one is tried
pub each_on : (k after : Kept Fact) (ms : List Move) (known : List ℕ) (i : ℕ) (m : Move) (r : ℕ) → i < length ms → length ms ≤ length known → m ≡ get_or ms i m → EachKnown k ms known → after ≡ try_move k m → Known after m r → EachKnown after ms (set known i r)
each_on k after ms known i m r within long is each tried now j n read =
    ⊎_elim
    (λ (e : j ≡ i).
    let read_i : slice_get ms i ≡ Some n = subst (λ q. slice_get ms q ≡ Some n) e read in
    let same : m ≡ n = let q : Some m ≡ Some n = sym (slice_get_read ms (length ms) i m refl within is) ∙ read_i in cc in
    let told : get_or (set known i r) j 0 ≡ r = ap (λ q. get_or (set known i r) q 0) e ∙ get_or-set_same known i r 0 (omega (arith, within, long)) in
    subst (λ q. Known after n q) (sym told) (subst (λ o. Known after o r) same now))
    (λ (ne : j ≢ i).
    subst (λ q. Known after n q) (sym (get_or-set_other known i j r 0 ne))
    (subst (λ p. Known p n (get_or known j 0)) (sym tried) (known_on n m (get_or known j 0) k (each j n read))))
    (cases_eq j i)

-- at first nothing is known of any
pub each_none : (k : Kept Fact) (ms : List Move) (known : List ℕ) → known ≡ replicate 128 0 → EachKnown k ms known
each_none k ms known is i m read = subst (Known k m) (sym (ap (λ (l : List ℕ). get_or l i 0) is ∙ none)) (known_none k m)
  where
    none : ◌≡◌ {A = ℕ} (get_or (replicate 128 0) i 0) 0
    none = ⊎_elim (λ (l : i < 128). get_or-replicate 128 i 0 0 l) (λ (past : 128 ≤ i). get_or_past (replicate 128 0) i 0 (omega (arith, past, length-replicate {A = ℕ} 128 0))) (cases_lt i 128)
