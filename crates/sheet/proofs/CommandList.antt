-- The commands of a sheet, one step at a time.
use Rattle.std.proofs.Common.{◌≡◌, ℕ, zero, suc, ◌+◌, ◌<◌, ◌≤◌, Bool, true, false, cond, leb, ltb, List, [], ◌∷◌, length, drop, Some, None, Option, sym, refl, ap, ◌∙◌, arith, length-drop, leb-true, ltb-false}
use Rattle.std.proofs.lemmas.List.{drop-drop, drop_all}
use Rattle.std.proofs.lemmas.Bool.{cond_both}
use Rattle.std.proofs.lemmas.Option.{cond_some}
use borrow.Author.Tests.{ltb-true}
use Rattle.sheet.specs.Reading.{Told, width, reading, reading_of, is_fault}
use Rattle.sheet.specs.Commands.{Item, item_at, item_found, listed, commands_from}

-- what a command leaves of the bytes; it takes at least its own byte
record Left (bs : List ℕ) (r : Told × List ℕ) : Type 0 where
  by : ℕ
  within : by ≤ length bs
  rest : r.1 ≡ drop by bs
  some : is_fault r.0 ≡ false → 0 < by

left_of : (b : ℕ) (t : List ℕ) (o : Option ℕ) → Left (b ∷ t) (reading_of b t o)
left_of b t None = record { by = 0; within = omega arith; rest = refl; some = λ h. absurd (cc) }
left_of b t (Some w) = cond_both (leb w (length t)) _ _ (Left (b ∷ t))
    (λ fits. record { by = suc w; within = omega (arith, leb-true); rest = refl; some = λ _. omega arith })
    (λ _. record { by = 0; within = omega arith; rest = refl; some = λ h. absurd (cc) })

left : (bs : List ℕ) → Left bs (reading bs)
left [] = record { by = 0; within = omega arith; rest = refl; some = λ h. absurd (cc) }
left (b ∷ t) = left_of b t (width b)

shorter : (bs : List ℕ) → is_fault (reading bs).0 ≡ false → length (reading bs).1 < length bs
shorter bs more = let l = left bs in omega (arith, l.some more, ap length l.rest, length-drop l.by bs)

pub no_longer : (bs : List ℕ) → length (reading bs).1 ≤ length bs
no_longer bs = let l = left bs in omega (arith, ap length l.rest, length-drop l.by bs)

unless : {X : Type 0} (q : Bool) (x : X) {a b : X} → (q ≡ false → a ≡ b) → cond q x a ≡ cond q x b
unless true x h = refl
unless false x h = h refl

listed_none : (n p : ℕ) → listed n p [] ≡ []
unfolding listed
listed_none zero p = refl
listed_none (suc n) p = refl

-- any number that is at least the number of bytes gives the same
listed_same : (n m p : ℕ) (bs : List ℕ) → length bs ≤ n → length bs ≤ m → listed n p bs ≡ listed m p bs
unfolding listed
listed_same n m p [] h k = listed_none n p ∙ sym (listed_none m p)
listed_same zero m p (b ∷ t) h k = absurd (omega arith)
listed_same (suc n) zero p (b ∷ t) h k = absurd (omega arith)
listed_same (suc n) (suc m) p (b ∷ t) h k =
    ap (λ l. item_at p (b ∷ t) ∷ l) (unless (is_fault (item_at p (b ∷ t)).said) []
    (λ more. let less = shorter (b ∷ t) more in listed_same n m (item_at p (b ∷ t)).next (reading (b ∷ t)).1 (omega arith) (omega arith)))

listed_some : (n p : ℕ) (bs : List ℕ) → 0 < length bs → listed (suc n) p bs ≡ item_at p bs ∷ cond (is_fault (item_at p bs).said) [] (listed n (item_at p bs).next (reading bs).1)
unfolding listed
listed_some n p [] some = absurd (omega arith)
listed_some n p (b ∷ t) some = refl

rest_from_next : (sheet : List ℕ) (p : ℕ) → p < length sheet → (reading (drop p sheet)).1 ≡ drop (item_at p (drop p sheet)).next sheet
rest_from_next sheet p within =
    let l = left (drop p sheet) in
    let past : p + l.by ≡ (item_at p (drop p sheet)).next = omega (arith, ap length l.rest, l.within, length-drop l.by (drop p sheet)) in
    l.rest ∙ drop-drop l.by p sheet ∙ ap (λ k. drop k sheet) past

-- the command at a place, and then those from the next place on
pub commands_at : (sheet : List ℕ) (p : ℕ) → p < length sheet → commands_from sheet p ≡ item_at p (drop p sheet) ∷ cond (is_fault (item_at p (drop p sheet)).said) [] (commands_from sheet (item_at p (drop p sheet)).next)
unfolding commands_from
commands_at sheet p within =
    let bs = drop p sheet in
    let long = length-drop p sheet in
    listed_same (length sheet) (suc (length sheet)) p bs (omega arith) (omega arith)
    ∙ listed_some (length sheet) p bs (omega arith)
    ∙ ap (λ r. item_at p bs ∷ cond (is_fault (item_at p bs).said) [] (listed (length sheet) (item_at p bs).next r)) (rest_from_next sheet p within)

-- what is found at a place says which commands stand from there on
pub commands_none : (sheet : List ℕ) (p : ℕ) → None ≡ item_found sheet p → commands_from sheet p ≡ []
unfolding commands_from
commands_none sheet p is = cond_both (ltb p (length sheet)) (Some (item_at p (drop p sheet))) None (λ found. None ≡ found → commands_from sheet p ≡ [])
    (λ _ never. absurd (cc))
    (λ past _. ap (listed (length sheet) p) (drop_all p sheet (omega (arith, ltb-false _ _ past))) ∙ listed_none (length sheet) p)
    is

module _ (sheet : List ℕ) (p : ℕ) (i : Item) (is : Some i ≡ item_found sheet p) where
  found_is : (p < length sheet) × (i ≡ item_at p (drop p sheet))
  found_is = let found = cond_some _ _ _ (sym is) in (ltb-true _ _ found.0, sym found.1)

  pub commands_some : commands_from sheet p ≡ i ∷ cond (is_fault i.said) [] (commands_from sheet i.next)
  commands_some = commands_at sheet p found_is.0 ∙ ap (λ x. x ∷ cond (is_fault x.said) [] (commands_from sheet x.next)) (sym found_is.1)

  pub found_moves_on : is_fault i.said ≡ false → (p < i.next) × (i.next ≤ length sheet)
  found_moves_on more =
      let within = found_is.0 in
      let less = shorter (drop p sheet) (ap (λ x. is_fault x.said) (sym found_is.1) ∙ more) in
      let next = ap (λ x. x.next) found_is.1 in
      (omega (arith, length-drop p sheet), omega (arith, length-drop p sheet))
