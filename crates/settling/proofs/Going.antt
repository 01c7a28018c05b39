-- Rounds one by one.
use Rattle.std.proofs.Common.{◌≡◌, ℕ, zero, suc, ◌+◌, ◌<◌, Bool, true, false, List, length, refl, ◌∙◌, arith}
use Rattle.model.specs.declared.row.Row.{Row}
use Rattle.model.specs.Records.{ModelRecord}
use Rattle.rules.specs.Rules.{keeps_rule_2}
use Rattle.settling.specs.Rounds.{after_round, marks_nothing, after_rounds, round_count}
use Rattle.lists.proofs.Members.{filter_all, filter_drops}

-- at most so many rounds are made, and these rows are unmarked at first
module _ (d : ModelRecord) (calls : Row → Bool) (most : ℕ) (first : List Row) where
  -- the round of this number is to come, and these candidates are unmarked
  pub record Going (unmarked : List Row) (round : ℕ) : Type 0 where
    pub more : ℕ
    pub short : length unmarked < more
    pub bound : more + round ≡ most + 1
    pub left : after_rounds d calls more unmarked ≡ after_rounds d calls most first
    pub count : round_count d calls more unmarked + round ≡ round_count d calls most first + 1

  pub going_start : length first < most → Going first 1
  going_start short = record { more = most; short = short; bound = omega arith; left = refl; count = refl }

  module _ (unmarked : List Row) (round : ℕ) where
    pub going_on : marks_nothing d calls unmarked ≡ false → Going unmarked round → Going (after_round d calls unmarked) (round + 1)
    unfolding after_rounds round_count marks_nothing after_round
    going_on on going = next going.more going.short going.bound going.left going.count
      where
        next : (n : ℕ) → length unmarked < n → n + round ≡ most + 1 → after_rounds d calls n unmarked ≡ after_rounds d calls most first → round_count d calls n unmarked + round ≡ round_count d calls most first + 1 → Going (after_round d calls unmarked) (round + 1)
        next zero short bound left count = let none : ⊥ = omega arith in absurd none
        next (suc n) short bound left count = record {
          more = n;
          short = omega (arith, filter_drops (keeps_rule_2 d calls unmarked) unmarked on);
          bound = omega arith;
          left = rw on at left;
          count = let once = rw on at count in omega arith;
        }

    pub going_end : marks_nothing d calls unmarked ≡ true → Going unmarked round → (after_round d calls unmarked ≡ after_rounds d calls most first) × (round ≡ round_count d calls most first)
    unfolding after_rounds round_count marks_nothing after_round
    going_end off going = last going.more going.short going.left going.count
      where
        last : (n : ℕ) → length unmarked < n → after_rounds d calls n unmarked ≡ after_rounds d calls most first → round_count d calls n unmarked + round ≡ round_count d calls most first + 1 → (after_round d calls unmarked ≡ after_rounds d calls most first) × (round ≡ round_count d calls most first)
        last zero short left count = let none : ⊥ = omega arith in absurd none
        last (suc n) short left count = (filter_all (keeps_rule_2 d calls unmarked) unmarked off ∙ rw off at left, (let once = rw off at count in omega arith))
