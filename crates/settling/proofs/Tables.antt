-- The standings of all candidates.
use Rattle.std.proofs.Common.{◌≡◌, ◌≢◌, ◌<◌, ◌≤◌, ℕ, Bool, true, false, not, ◌&&◌, ◌||◌, List, [], ◌∷◌, length, map, replicate, take, get_or, set, zero, suc, refl, sym, ap, subst, ◌∙◌, ⊎_elim, arith}
use Rattle.std.proofs.lemmas.Bool.{cases_eq, true≢false}
use Rattle.std.proofs.lemmas.List.{get_or_default, get_or-set_same, get_or-set_other, get_or-map, get_or-replicate, length-map}
use Rattle.model.specs.declared.row.Row.{Row}
use Rattle.model.specs.Rows.{contained}
use Rattle.model.specs.declared.moves.Move.{Move}
use Rattle.model.specs.Moves.{progression}
use Rattle.model.specs.Records.{ModelRecord}
use Rattle.settling.specs.declared.candidate.Candidate.{Candidate}
use Rattle.settling.specs.declared.standing.Standing.{Standing}
use Rattle.settling.specs.declared.standing.Standing.TheVariants.{Unseen, Stays, CoveredBy}
use Rattle.settling.specs.declared.standings.Standings.{Standings}
use Rattle.settling.specs.Candidates.{after, covered, covers_unmarked, marked_by}
use Rattle.settling.specs.Standings.{CoveredAt, Stands, AllStand, TableStands, unseen}

-- one candidate's are read and renewed
module _ (calls : Row → Bool) (cs : List Candidate) (ms : List Move) (table : List Standings) (i : ℕ) (c : Candidate) where
  pub row_of_table : (own : Standings) → TableStands calls cs ms table → i < length cs → c ≡ get_or cs i c → own ≡ get_or table i own → AllStand calls cs c.row ms own.of_moves
  unfolding TableStands
  row_of_table own stand within read same = stand i c own within read same

  pub table_stands : (new : Standings) → TableStands calls cs ms table → i < length table → i < length cs → c ≡ get_or cs i c → AllStand calls cs c.row ms new.of_moves → TableStands calls cs ms (set table i new)
  unfolding TableStands
  table_stands new stand room within read renewed j other own below same is =
      ⊎_elim
      (λ (here : j ≡ i).
      let one : other ≡ c = same ∙ ap (λ k. get_or cs k other) here ∙ get_or_default cs i other c within ∙ sym read in
      let own_is : own ≡ new = is ∙ ap (λ k. get_or (set table i new) k own) here ∙ get_or-set_same table i new own room in
      rw (one, own_is) renewed)
      (λ (there : j ≢ i). stand j other own below same (is ∙ get_or-set_other table i j new own there))
      (cases_eq j i)

-- where nothing is known yet
nothing_known : (i : ℕ) → get_or unseen.of_moves i Unseen ≡ Unseen
nothing_known i = by_place 128 i
  where
    by_place : (n i : ℕ) → get_or (replicate n Unseen) i Unseen ≡ Unseen
    by_place zero i = refl
    by_place (suc n) zero = refl
    by_place (suc n) (suc i) = by_place n i

pub unseen_stand : (calls : Row → Bool) (cs : List Candidate) (ms : List Move) (table : List Standings) → table ≡ replicate 256 unseen → length cs ≤ 256 → TableStands calls cs ms table
unfolding TableStands AllStand
unseen_stand calls cs ms table is few j c own below same read i m within move =
    let own_is : own ≡ unseen = read ∙ ap (λ (t : List Standings). get_or t j own) is ∙ get_or-replicate 256 j unseen own (omega arith) in
    rw (own_is, nothing_known i) tt

neither : (a b : Bool) → (a || b) ≡ false → (a ≡ false) × (b ≡ false)
neither true b h = absurd (true≢false h)
neither false b h = (refl, h)

one_mark_more : (marked marks within : Bool) → (not marked && within) ≡ false → (not (marked || marks) && within) ≡ false
one_mark_more true marks within h = refl
one_mark_more false true within h = refl
one_mark_more false false within h = h

-- A round only adds marks, so that what stood by the marks before it stands by those behind it.
module _ (d : ModelRecord) (calls : Row → Bool) (rows : List Row) where
  -- the candidate at a place behind it is the one before it, but for the mark
  same_behind : (cs : List Candidate) (i : ℕ) (c : Candidate) → i < length cs → c ≡ get_or (map (after d calls rows) cs) i c → (b : Candidate) × (b ≡ get_or cs i b) × (c ≡ after d calls rows b)
  same_behind cs i c within read = (get_or cs i c, get_or_default cs i c (get_or cs i c) within, read ∙ get_or-map (after d calls rows) cs i c c within)

  marks_uncover : (t : Row) (k : ℕ) (cs : List Candidate) → covered (take k cs) t ≡ false → covered (take k (map (after d calls rows) cs)) t ≡ false
  marks_uncover t zero cs none = refl
  marks_uncover t (suc k) [] none = refl
  marks_uncover t (suc k) (c ∷ cs) none =
      let parts = neither (covers_unmarked t c) (covered (take k cs) t) none in
      rw (one_mark_more c.marked (marked_by d calls rows c) (contained c.row t) parts.0) (marks_uncover t k cs parts.1)

  still_covered : (cs : List Candidate) (t : Row) (k : ℕ) → CoveredAt cs t k → CoveredAt (map (after d calls rows) cs) t k
  still_covered cs t k at = record {
    within = omega (arith, at.within, length-map cs (after d calls rows));
    contains = λ c read.
        let before = same_behind cs k c at.within read in
        ap (λ (x : Candidate). contained x.row t) before.2 ∙ at.contains before.0 before.1;
    none_before = marks_uncover t k cs at.none_before;
  }

  still_stands : (cs : List Candidate) (r : Row) (m : Move) (s : Standing) → Stands calls cs r m s → Stands calls (map (after d calls rows) cs) r m s
  still_stands cs r m Unseen h = tt
  still_stands cs r m Stays h = h
  still_stands cs r m (CoveredBy k) h = still_covered cs (progression m r) k h

  stand_still : (ms : List Move) (cs : List Candidate) (table : List Standings) → TableStands calls cs ms table → TableStands calls (map (after d calls rows) cs) ms table
  unfolding TableStands AllStand
  stand_still ms cs table stand j c own below read is i m within move =
      let before = same_behind cs j c (omega (arith, length-map cs (after d calls rows))) read in
      let standing = get_or own.of_moves i Unseen in
      let stood = still_stands cs before.0.row m standing (stand j before.0 own (omega (arith, length-map cs (after d calls rows))) before.1 is i m within move) in
      subst (λ (x : Candidate). Stands calls (map (after d calls rows) cs) x.row m standing) (sym before.2) stood

  pub stand_behind : (ms : List Move) (cs behind : List Candidate) (table : List Standings) → behind ≡ map (after d calls rows) cs → TableStands calls cs ms table → TableStands calls behind ms table
  stand_behind ms cs behind table is stand = subst (λ (l : List Candidate). TableStands calls l ms table) (sym is) (stand_still ms cs table stand)
