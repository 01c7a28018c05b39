-- The two rules, as tests and in words.
use Rattle.std.proofs.Common.{◌≡◌, Bool, true, false, not, ◌&&◌, ◌||◌, List, refl, inl, inr, ⊎_elim}
use Rattle.std.proofs.Math.Bool.{or_comm}
use Rattle.std.proofs.lemmas.Bool.{and_parts, and_from, or_cases, or_left, or_right, false≢true}
use Rattle.model.specs.declared.row.Row.{Row}
use Rattle.model.specs.declared.moves.Move.{Move}
use Rattle.model.specs.Moves.{applicable, progression}
use Rattle.lists.specs.Members.{Among, Within}
use Rattle.model.specs.Records.{ModelRecord}
use Rattle.lists.proofs.Members.{all_among, all_from}
use Rattle.rules.specs.Rules.{covers, keeps_rule_1, stays_in, keeps_rule_2, keeps_rules, KeepsBothRules}
use Rattle.rules.proofs.Covering.{covering, covered, covered_by_more}

-- of the dead set and the rows of a set either may be asked first
pub either_first : (gone held : Bool) → (gone || held) ≡ (held || gone)
either_first gone held = or_comm gone held

not_or : (a b : Bool) → a ≡ true → (not a || b) ≡ true → b ≡ true
not_or true b e h = h
not_or false b e h = absurd (false≢true e)

not_or_from : (a b : Bool) → (a ≡ true → b ≡ true) → (not a || b) ≡ true
not_or_from true b h = h refl
not_or_from false b h = refl

-- rule 2 for one row and one move
module _ (dead : Row → Bool) (set : List Row) (r : Row) (m : Move) where
  pub stays_at : stays_in dead set r m ≡ true → applicable m r ≡ true → (dead (progression m r) || covers set (progression m r)) ≡ true
  stays_at h can = not_or (applicable m r) (dead (progression m r) || covers set (progression m r)) can h

  pub stays_from : (applicable m r ≡ true → (dead (progression m r) || covers set (progression m r)) ≡ true) → stays_in dead set r m ≡ true
  stays_from h = not_or_from (applicable m r) (dead (progression m r) || covers set (progression m r)) h

-- rule 2 for one row
module _ (d : ModelRecord) (dead : Row → Bool) (set : List Row) (r : Row) where
  pub rule_2_at : keeps_rule_2 d dead set r ≡ true → (m : Move) → Among d.moves m → stays_in dead set r m ≡ true
  unfolding keeps_rule_2
  rule_2_at h m a = all_among (stays_in dead set r) d.moves m h a

  pub rule_2_from : ((m : Move) → Among d.moves m → stays_in dead set r m ≡ true) → keeps_rule_2 d dead set r ≡ true
  unfolding keeps_rule_2
  rule_2_from h = all_from (stays_in dead set r) d.moves h

  -- what keeps a row in a set keeps it in one that covers what the set does
  pub rule_2_where_covered : (more : List Row) → ((t : Row) → covers set t ≡ true → covers more t ≡ true) → keeps_rule_2 d dead set r ≡ true → keeps_rule_2 d dead more r ≡ true
  unfolding keeps_rule_2
  rule_2_where_covered more covering h = all_from (stays_in dead more r) d.moves (λ m a. stays_from dead more r m (λ can.
      let t = progression m r in ⊎_elim
      (λ gone. or_left (dead t) (covers more t) gone)
      (λ held. or_right (dead t) (covers more t) (covering t held))
      (or_cases (dead t) (covers set t) (stays_at dead set r m (rule_2_at h m a) can))))

  -- and so in a larger one
  pub rule_2_in_more : (more : List Row) → Within set more → keeps_rule_2 d dead set r ≡ true → keeps_rule_2 d dead more r ≡ true
  rule_2_in_more more within = rule_2_where_covered more (λ t. covered_by_more set more t within)

-- both rules for each row of a set
module _ (d : ModelRecord) (dead : Row → Bool) (set : List Row) where
  pub rules_at : keeps_rules d dead set ≡ true → (r : Row) → Among set r → (keeps_rule_1 d r ≡ true) × (keeps_rule_2 d dead set r ≡ true)
  unfolding keeps_rules
  rules_at h r a = and_parts (keeps_rule_1 d r) (keeps_rule_2 d dead set r) (all_among (λ t. keeps_rule_1 d t && keeps_rule_2 d dead set t) set r h a)

  pub rules_from : ((r : Row) → Among set r → (keeps_rule_1 d r ≡ true) × (keeps_rule_2 d dead set r ≡ true)) → keeps_rules d dead set ≡ true
  unfolding keeps_rules
  rules_from h = all_from (λ t. keeps_rule_1 d t && keeps_rule_2 d dead set t) set (λ r a. let own = h r a in and_from (keeps_rule_1 d r) (keeps_rule_2 d dead set r) own.0 own.1)

  pub rules_told : keeps_rules d dead set ≡ true → KeepsBothRules d dead set
  rules_told h = record {
    each_row_disagrees_with_the_goal = λ r a. (rules_at h r a).0;
    no_move_leads_out = λ r a m among can.
        let t = progression m r in ⊎_elim
        (λ gone. inl gone)
        (λ held. inr (covering set t held))
        (or_cases (dead t) (covers set t) (stays_at dead set r m (rule_2_at d dead set r (rules_at h r a).1 m among) can));
  }

  pub rules_hold : KeepsBothRules d dead set → keeps_rules d dead set ≡ true
  rules_hold both = rules_from (λ r a. (
    both.each_row_disagrees_with_the_goal r a,
    rule_2_from d dead set r (λ m among. stays_from dead set r m (λ can.
        let t = progression m r in ⊎_elim
        (λ gone. or_left (dead t) (covers set t) gone)
        (λ found. or_right (dead t) (covers set t) (covered set t found.0 found.1 found.2))
        (both.no_move_leads_out r a m among can))),
  ))

-- lists with the same members keep the rules alike
pub rules_by_members : (d : ModelRecord) (dead : Row → Bool) (set other : List Row) → Within set other → Within other set → keeps_rules d dead set ≡ true → keeps_rules d dead other ≡ true
rules_by_members d dead set other more less h =
    rules_from d dead other (λ r a. let own = rules_at d dead set h r (less r a) in (own.0, rule_2_in_more d dead set r other more own.1))
