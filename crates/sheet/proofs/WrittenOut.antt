-- Commands that are written out are read back.
use Rattle.std.proofs.Common.{◌≡◌, ℕ, zero, suc, ◌+◌, ◌-◌, ◌≤◌, false, cond, leb, List, [], ◌∷◌, ◌++◌, length, Some, None, Option, refl, ap, ◌∙◌, arith, length-append, take-append-drop, le-leb}
use borrow.Author.Tests.{lt-leb}
use Rattle.std.specs.List.{flat_map, AllByRecursion}
use Rattle.std.proofs.lemmas.Bool.{cond_both}
use Rattle.std.proofs.lemmas.List.{take_at, drop_at}
use Rattle.sheet.specs.Reading.{Told, width, reading, reading_of, is_fault}
use Rattle.sheet.specs.Commands.{listed, commands_from}
use Rattle.sheet.specs.Laws.{written_out, Formed, placed_from, ReadingLosesNoByte, CommandsWrittenOutReadBack}

abbrev Again : List ℕ → Told × List ℕ → Type 0
Again bs r = is_fault r.0 ≡ false → written_out r.0 ++ r.1 ≡ bs

again_of : (b : ℕ) (t : List ℕ) (o : Option ℕ) → Again (b ∷ t) (reading_of b t o)
again_of b t None h = absurd (cc)
again_of b t (Some w) h = cond_both (leb w (length t)) _ _ (Again (b ∷ t)) (λ _ _. ap (λ l. b ∷ l) (take-append-drop w t)) (λ _ fault. absurd (cc)) h

pub loses_no_byte : ReadingLosesNoByte
unfolding ReadingLosesNoByte
loses_no_byte [] h = absurd (cc)
loses_no_byte (b ∷ t) h = again_of b t (width b) h

reading_written : (c : Told) (bs : List ℕ) → Formed c → reading (written_out c ++ bs) ≡ (c, bs)
reading_written c bs formed = rw (formed, le-leb (length c.1) (length (c.1 ++ bs)) (omega (arith, length-append c.1 bs))) (λ i. ((c.0, take_at c.1 bs _ refl i), drop_at c.1 bs _ refl i))

-- no command has the number of a fault
no_fault : (b w : ℕ) → width b ≡ Some w → leb b 2 ≡ false
no_fault zero w e = absurd (cc)
no_fault (suc zero) w e = absurd (cc)
no_fault (suc (suc zero)) w e = absurd (cc)
no_fault (suc (suc (suc b))) w e = lt-leb _ _ (omega arith)

listed_written : (cs : List Told) → AllByRecursion Formed cs → (n p : ℕ) → length (flat_map written_out cs) ≤ n → listed n p (flat_map written_out cs) ≡ placed_from p cs
unfolding listed
listed_written [] f zero p h = refl
listed_written [] f (suc n) p h = refl
listed_written (c ∷ cs) f zero p h = absurd (omega arith)
listed_written (c ∷ cs) f (suc n) p h =
    let bs = flat_map written_out cs in
    let whole = length-append (written_out c) bs in
    let next : p + (length (written_out c ++ bs) - length bs) ≡ p + length (written_out c) = omega (arith, whole) in
    ap (λ (r : Told × List ℕ). record { place = p; said = r.0; next = p + (length (written_out c ++ bs) - length r.1) } ∷ cond (is_fault r.0) [] (listed n (p + (length (written_out c ++ bs) - length r.1)) r.1)) (reading_written c bs f.0)
    ∙ rw (no_fault _ _ f.0, next) (ap (λ l. record { place = p; said = c; next = p + length (written_out c) } ∷ l) (listed_written cs f.1 n (p + length (written_out c)) (omega (arith, whole))))

pub reads_back : CommandsWrittenOutReadBack
unfolding CommandsWrittenOutReadBack commands_from
reads_back cs f = listed_written cs f (length (flat_map written_out cs)) 0 (omega arith)
