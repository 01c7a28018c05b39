-- Rounds of moves only add facts, and as many as there are places left end where none is added.
use Rattle.std.proofs.Common.{◌≡◌, ℕ, zero, suc, ◌-◌, ◌≤◌, List, [], ◌∷◌, length, sym, refl, ap, ◌∙◌, subst, ⊎_elim, arith}
use Rattle.std.proofs.lemmas.Bool.{cond_both, cases_eq}
use Rattle.first_come.specs.Arrivals.{Kept, arrived}
use Rattle.first_come.proofs.Growth.{Grows, grows_none, grows_on, grows_keep_all}
use Rattle.model.specs.declared.moves.Move.{Move}
use Rattle.lists.specs.Members.{Among}
use Rattle.detectors.specs.declared.relaxed.fact.Fact.{Fact}
use Rattle.detectors.specs.Facts.{same_fact, all_reached, given_facts}
use Rattle.detectors.specs.Closure.{try_move, round, rounds, closure}

grows_try : (k : Kept Fact) (m : Move) → Grows k (try_move k m)
grows_try k m =
    cond_both (all_reached (arrived k) m.conditions) _ _ (Grows k) (λ _. grows_keep_all same_fact k (given_facts m.effects)) (λ _. grows_none k)

pub grows_round : (k : Kept Fact) (ms : List Move) → Grows k (round k ms)
grows_round k [] = grows_none k
grows_round k (m ∷ ms) = grows_on k (try_move k m) _ (grows_try k m) (grows_round (try_move k m) ms)

-- the places that are left
abbrev pub room : Kept Fact → ℕ
room k = length k.places - k.len

module _ (ms : List Move) where
  rounds_fixed : (n : ℕ) (k : Kept Fact) → round k ms ≡ k → rounds n k ms ≡ k
  rounds_fixed zero k e = refl
  rounds_fixed (suc n) k e = ap (λ p. rounds n p ms) e ∙ rounds_fixed n k e

  full_fixed : (k : Kept Fact) → k.len ≤ length k.places → room k ≤ 0 → round k ms ≡ k
  full_fixed k h r = let g = grows_round k ms in g.idle (omega (arith, g.more, g.fits h, g.long))

  -- from the places left on, any number of rounds does the same
  rounds_enough : (n p : ℕ) (k : Kept Fact) → k.len ≤ length k.places → room k ≤ n → room k ≤ p → rounds n k ms ≡ rounds p k ms
  rounds_enough zero p k h a b = sym (rounds_fixed p k (full_fixed k h a))
  rounds_enough (suc n) zero k h a b = rounds_fixed (suc n) k (full_fixed k h b)
  rounds_enough (suc n) (suc p) k h a b =
      let g = grows_round k ms in
      ⊎_elim
      (λ same. let e = g.idle same in rounds_fixed (suc n) k e ∙ sym (rounds_fixed (suc p) k e))
      (λ other. rounds_enough n p (round k ms) (g.fits h) (omega (arith, g.more, g.long, other)) (omega (arith, g.more, g.long, other)))
      (cases_eq (round k ms).len k.len)

  -- one round first changes nothing in the end
  pub closure_on : (k : Kept Fact) → k.len ≤ length k.places → closure (round k ms) ms ≡ closure k ms
  closure_on k h =
      let g = grows_round k ms in
      rounds_enough (room (round k ms)) (room k) (round k ms) (g.fits h) (omega arith) (omega (arith, g.more, g.long))
      ∙ rounds_enough (suc (room k)) (room k) k h (omega arith) (omega arith)

  -- a round that adds nothing is the end
  pub closure_end : (k : Kept Fact) → (round k ms).len ≡ k.len → closure k ms ≡ round k ms
  closure_end k e = let still = (grows_round k ms).idle e in rounds_fixed (room k) k still ∙ sym still

  round_last : (n : ℕ) (k : Kept Fact) → rounds (suc n) k ms ≡ round (rounds n k ms) ms
  round_last zero k = refl
  round_last (suc n) k = round_last n (round k ms)

  closure_fixed : (k : Kept Fact) → k.len ≤ length k.places → round (closure k ms) ms ≡ closure k ms
  closure_fixed k h = sym (round_last (room k) k) ∙ rounds_enough (suc (room k)) (room k) k h (omega arith) (omega arith)

move_fixed : (k : Kept Fact) (ms : List Move) → round k ms ≡ k → (m : Move) → Among ms m → try_move k m ≡ k
move_fixed k [] e m among = absurd among
move_fixed k (x ∷ xs) e m among =
    let first = grows_try k x in
    let rest = grows_round (try_move k x) xs in
    let still : try_move k x ≡ k = first.idle (omega (arith, first.more, rest.more, ap (λ n. n.len) e)) in
    ⊎_elim (λ is. subst (λ n. try_move k n ≡ k) is still) (move_fixed k xs (ap (λ n. round n xs) (sym still) ∙ e) m) among

-- in the end no move adds a fact
pub closure_closed : (k : Kept Fact) (ms : List Move) → k.len ≤ length k.places → (m : Move) → Among ms m → try_move (closure k ms) m ≡ closure k ms
closure_closed k ms h = move_fixed (closure k ms) ms (closure_fixed ms k h)
