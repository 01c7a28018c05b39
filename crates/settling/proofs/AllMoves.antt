-- The moves of a candidate one by one.
use Rattle.std.proofs.Common.{◌≡◌, ◌≢◌, ◌<◌, ◌≤◌, ℕ, ◌+◌, Bool, true, false, List, length, take, get_or, set, sym, ap, ◌∙◌, ⊎_elim}
use Rattle.std.specs.List.{list_all}
use Rattle.std.proofs.lemmas.Bool.{and_from, cases_eq}
use Rattle.std.proofs.lemmas.List.Folds.{list_all_more, list_all_at}
use Rattle.std.proofs.lemmas.List.{take_all, get_or_default, get_or-set_same, get_or-set_other}
use Rattle.model.specs.declared.row.Row.{Row}
use Rattle.model.specs.declared.moves.Move.{Move}
use Rattle.model.specs.Records.{ModelRecord}
use Rattle.rules.specs.Rules.{keeps_rule_2, stays_in}
use Rattle.settling.specs.declared.candidate.Candidate.{Candidate}
use Rattle.settling.specs.declared.standing.Standing.{Standing}
use Rattle.settling.specs.declared.standing.Standing.TheVariants.{Unseen}
use Rattle.settling.specs.Standings.{Stands, AllStand}

module _ (calls : Row → Bool) (cs : List Candidate) (r : Row) (ms : List Move) (standings : List Standing) (i : ℕ) where
  pub standing_at : (m : Move) → AllStand calls cs r ms standings → i < length ms → m ≡ get_or ms i m → Stands calls cs r m (get_or standings i Unseen)
  unfolding AllStand
  standing_at m stand within read = stand i m within read

  -- one is renewed
  pub still_stand : (m : Move) (s : Standing) → AllStand calls cs r ms standings → i < length standings → i < length ms → m ≡ get_or ms i m → Stands calls cs r m s → AllStand calls cs r ms (set standings i s)
  unfolding AllStand
  still_stand m s stand room within read new j n below same =
      ⊎_elim
      (λ (here : j ≡ i).
      let one : n ≡ m = same ∙ ap (λ k. get_or ms k n) here ∙ get_or_default ms i n m within ∙ sym read in
      rw (here, get_or-set_same standings i s Unseen room, one) new)
      (λ (there : j ≢ i). rw (get_or-set_other standings i j s Unseen there) (stand j n below same))
      (cases_eq j i)

-- the moves before the i-th stay in
module _ (d : ModelRecord) (calls : Row → Bool) (rows : List Row) (r : Row) where
  abbrev pub StayBefore : ℕ → Type 0
  StayBefore i = list_all (stays_in calls rows r) (take i d.moves) ≡ true

  module _ (i : ℕ) where
    pub one_more_stays : (m : Move) → i < length d.moves → m ≡ get_or d.moves i m → stays_in calls rows r m ≡ true → StayBefore i → StayBefore (i + 1)
    one_more_stays m within read stays before = list_all_more (stays_in calls rows r) d.moves i m within ∙ and_from (list_all (stays_in calls rows r) (take i d.moves)) (stays_in calls rows r (get_or d.moves i m)) before (ap (stays_in calls rows r) (sym read) ∙ stays)

    pub one_leads_out : (m : Move) → i < length d.moves → m ≡ get_or d.moves i m → stays_in calls rows r m ≡ false → keeps_rule_2 d calls rows r ≡ false
    unfolding keeps_rule_2
    one_leads_out m within read leads = list_all_at (stays_in calls rows r) d.moves i m within (ap (stays_in calls rows r) (sym read) ∙ leads)

    pub all_stay : length d.moves ≤ i → StayBefore i → keeps_rule_2 d calls rows r ≡ true
    unfolding keeps_rule_2
    all_stay long before = ap (list_all (stays_in calls rows r)) (sym (take_all i d.moves long)) ∙ before
