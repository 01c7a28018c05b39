-- Bytes that are set one after another, piece by piece.
use Rattle.std.proofs.Common.{◌≡◌, ℕ, suc, ◌+◌, ◌≤◌, List, [], ◌∷◌, ◌++◌, length, drop, sym, ap, ◌∙◌, arith, length-append, add-zero, zero-add}
use Rattle.std.proofs.Math.ListN.{set}
use Rattle.std.proofs.Math.Seq.{sets, length-sets}
use Rattle.std.proofs.lemmas.List.Edits.{sets-eq}

sets-append : (buffer : List ℕ) (start : ℕ) (a b : List ℕ) → sets buffer start (a ++ b) ≡ sets (sets buffer start a) (start + length a) b
sets-append buffer start [] b = ap (λ n. sets buffer n b) (sym (add-zero start))
sets-append buffer start (x ∷ a) b =
    let next : suc start + length a ≡ start + length (x ∷ a) = omega arith in
    sets-append (set buffer start x) (suc start) a b ∙ ap (λ n. sets (sets (set buffer start x) (suc start) a) n b) next

-- bytes set from the front of a buffer that has room for them
pub sets_front : (buffer bytes : List ℕ) → length bytes ≤ length buffer → sets buffer 0 bytes ≡ bytes ++ drop (length bytes) buffer
sets_front buffer bytes fits = sets-eq bytes buffer 0 (omega arith) ∙ ap (λ n. bytes ++ drop n buffer) (zero-add (length bytes))

-- setting the rest at the place in the buffer as it is now does what setting all did to the buffer before
pub record Laid (before : List ℕ) (start : ℕ) (all now : List ℕ) (place : ℕ) (rest : List ℕ) : Type 0 where
  pub same : sets now place rest ≡ sets before start all
  pub end : place + length rest ≡ start + length all
  pub size : length now ≡ length before

module _ {before all now rest : List ℕ} {start place : ℕ} (l : Laid before start all now place rest) (piece more : List ℕ) (cut : rest ≡ piece ++ more) where
  -- one piece more is set
  pub one_more : {after : List ℕ} {next : ℕ} → after ≡ sets now place piece → next ≡ place + length piece → Laid before start all after next more
  one_more {after} {next} is goes = record {
    same = (λ i. sets (is i) (goes i) more) ∙ sym (sets-append now place piece more) ∙ ap (sets now place) (sym cut) ∙ l.same;
    end = omega (arith, l.end, ap length cut, length-append piece more);
    size = ap length is ∙ length-sets now place piece ∙ l.size;
  }

  pub room : start + length all ≤ length before → place + length piece ≤ length now
  room fits = omega (arith, l.end, l.size, ap length cut, length-append piece more)
