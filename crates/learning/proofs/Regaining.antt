-- Entries regained one by one.
use Rattle.std.proofs.Common.{◌≡◌, ℕ, ◌+◌, ◌-◌, ◌*◌, ◌<◌, ◌≤◌, suc, zero, Bool, true, false, List, length, Some, None, Option, is_some, refl, sym, ap, ◌∙◌, arith}
use Rattle.std.specs.Prelude.{unwrap_or}
use Rattle.std.proofs.lemmas.List.{length-map}
use Rattle.model.specs.declared.row.Row.{Row}
use Rattle.model.specs.Records.{ModelRecord}
use Rattle.walk.specs.declared.walked.Walked.{Walked}
use Rattle.walk.specs.Answers.{states_of}
use Rattle.learning.specs.Learns.{regain_once, most_regained, regain, regain_count}

some_is : (o : Option (List Row)) (ps : List Row) → is_some o ≡ true → o ≡ Some (unwrap_or o ps)
some_is None ps h = cc
some_is (Some more) ps h = refl

none_is : (o : Option (List Row)) → is_some o ≡ false → o ≡ None
none_is None h = refl
none_is (Some more) h = cc

pub unchanged : (o : Option (List Row)) (ps : List Row) → is_some o ≡ false → unwrap_or o ps ≡ ps
unchanged None ps h = refl
unchanged (Some more) ps h = cc

module _ (d : ModelRecord) (dead : Row → Bool) (rows states : List Row) where
  module _ (parts : List Row) where
    -- where no entry is regained, regaining has ended
    ended : regain_once d dead rows states parts ≡ None → (n : ℕ) → (regain d dead rows states n parts ≡ parts) × (regain_count d dead rows states n parts ≡ 0)
    unfolding regain regain_count
    ended none zero = (refl, refl)
    ended none (suc n) = (rw none, rw none)

    -- else it goes on
    once : (more : List Row) → regain_once d dead rows states parts ≡ Some more → (n : ℕ) → (regain d dead rows states (suc n) parts ≡ regain d dead rows states n more) × (regain_count d dead rows states (suc n) parts ≡ suc (regain_count d dead rows states n more))
    unfolding regain regain_count
    once more one n = (rw one, rw one)

  -- after i of at most `most` entries: what is left to regain gives the whole answer
  pub record Regained (most : ℕ) (first : List Row) (i : ℕ) (parts : List Row) : Type 0 where
    pub left : regain d dead rows states (most - i) parts ≡ regain d dead rows states most first
    pub tally : regain_count d dead rows states (most - i) parts + i ≡ regain_count d dead rows states most first

  module _ (most : ℕ) (first : List Row) (i : ℕ) (parts : List Row) (so_far : Regained most first i parts) where
    pub regained_once : i < most → (more : List Row) → regain_once d dead rows states parts ≡ Some more → Regained most first (i + 1) more
    regained_once short more one =
        let n = most - (i + 1) in
        let turn : most - i ≡ suc n = omega arith in
        let step = once parts more one n in
        record {
          left = sym (ap (λ k. regain d dead rows states k parts) turn ∙ step.0) ∙ so_far.left;
          tally = let counted = ap (λ k. regain_count d dead rows states k parts) turn ∙ step.1 in omega (arith, so_far.tally);
        }

    pub regained_all : regain_once d dead rows states parts ≡ None → (parts ≡ regain d dead rows states most first) × (i ≡ regain_count d dead rows states most first)
    regained_all none =
        let last = ended parts none (most - i) in
        (sym last.0 ∙ so_far.left, omega (arith, last.1, so_far.tally))

    pub regained_most : most ≤ i → (parts ≡ regain d dead rows states most first) × (i ≡ regain_count d dead rows states most first)
    unfolding regain regain_count
    regained_most long =
        let none : most - i ≡ 0 = omega arith in
        (rw none at so_far.left, (let all = rw none at so_far.tally in omega (arith, all)))

pub most_listed : (listed : List Walked) → most_regained (states_of listed) ≡ 32 * length listed
most_listed listed = ap (λ n. 32 * n) (length-map listed (λ (w : Walked). w.state))

-- the same of listed states
module _ (d : ModelRecord) (dead : Row → Bool) (rows : List Row) (listed : List Walked) (first : List Row) (i : ℕ) (parts : List Row) where
  abbrev pub Going : Type 0
  Going = Regained d dead rows (states_of listed) (most_regained (states_of listed)) first i parts

  abbrev pub Ended : Type 0
  Ended = (parts ≡ regain d dead rows (states_of listed) (most_regained (states_of listed)) first) × (i ≡ regain_count d dead rows (states_of listed) (most_regained (states_of listed)) first)

  pub one_more : Going → i < 32 * length listed → is_some (regain_once d dead rows (states_of listed) parts) ≡ true → (next : List Row) → next ≡ unwrap_or (regain_once d dead rows (states_of listed) parts) parts → Regained d dead rows (states_of listed) (most_regained (states_of listed)) first (i + 1) next
  one_more so_far short some next is =
      regained_once d dead rows (states_of listed) (most_regained (states_of listed)) first i parts so_far (omega (arith, most_listed listed)) next
      (some_is (regain_once d dead rows (states_of listed) parts) parts some ∙ ap (λ ps. Some ps) (sym is))

  pub none_left : Going → is_some (regain_once d dead rows (states_of listed) parts) ≡ false → Ended
  none_left so_far none =
      regained_all d dead rows (states_of listed) (most_regained (states_of listed)) first i parts so_far (none_is (regain_once d dead rows (states_of listed) parts) none)

  pub no_more : Going → 32 * length listed ≤ i → Ended
  no_more so_far long =
      regained_most d dead rows (states_of listed) (most_regained (states_of listed)) first i parts so_far (omega (arith, most_listed listed))
