-- Cuts are known by their entries, so the test of sameness decides equality.
use Rattle.std.specs.Prelude.{◌≡◌, true, Decides, refl}
use Rattle.std.proofs.lemmas.Bool.Decides.{Decides-and}
use Rattle.model.specs.SameRows.{same_entry_decides}
use Rattle.model.specs.Rows.{same_entry}
use Rattle.detectors.specs.declared.pattern.cut.Cut.{Cut}
use Rattle.detectors.specs.Cuts.{same_cut}

pub from_entries : (s t : Cut) → s.first ≡ t.first → s.second ≡ t.second → s.third ≡ t.third → s ≡ t
from_entries s t p q r = λ i. record { first = p i; second = q i; third = r i }

same_cut_decides : (s t : Cut) → Decides (same_cut s t) ((s.first ≡ t.first) × ((s.second ≡ t.second) × (s.third ≡ t.third)))
same_cut_decides s t =
    Decides-and (same_entry s.first t.first) _ (same_entry_decides s.first t.first)
    (Decides-and (same_entry s.second t.second) (same_entry s.third t.third) (same_entry_decides s.second t.second) (same_entry_decides s.third t.third))

pub cut_self : (s : Cut) → same_cut s s ≡ true
cut_self s = (same_cut_decides s s).1 (refl, (refl, refl))

pub cut_equal : (s t : Cut) → same_cut s t ≡ true → s ≡ t
cut_equal s t h = let e = (same_cut_decides s t).0 h in from_entries s t e.0 e.1.0 e.1.1
