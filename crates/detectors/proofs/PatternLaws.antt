-- What a pattern decides, and that it keeps both laws.
use Rattle.std.proofs.Common.{◌≡◌, ℕ, ◌≤◌, Bool, true, List, [], ◌∷◌, map, sym, subst}
use Rattle.std.proofs.lemmas.Bool.{and_parts, and_from}
use Rattle.model.specs.declared.row.Row.{Row}
use Rattle.model.specs.Rows.{contained}
use Rattle.model.specs.Moves.{progression}
use Rattle.model.specs.Plans.{Leads}
use Rattle.model.specs.Records.{ModelRecord, row_of_model, Sealed}
use Rattle.lists.proofs.Members.{nth_among}
use Rattle.detector.specs.Laws.{Lawful}
use Rattle.detectors.specs.declared.pattern.cut.Cut.{Cut}
use Rattle.detectors.specs.declared.pattern.variables.Variables.{Variables}
use Rattle.detectors.specs.Cuts.{cut_of, cut_move}
use Rattle.detectors.specs.CutWalk.{cut_off}
use Rattle.detectors.specs.PatternMeaning.{product_of_sizes, gives, pattern_dead, PatternDecides, PatternDecidesForEveryModel}
use Rattle.detectors.proofs.CutLaws.{cut_progression, cut_applicable, cut_contained, same_cuts}
use Rattle.detectors.proofs.CutRows.{CutReached, first_reached, onward_reached, goal_not_reached}
use Rattle.detectors.proofs.CutReach.{cut_off_decides}

module _ (d : ModelRecord) (x : Variables) where
  abbrev off : Cut → Bool
  off s = cut_off (map (cut_move x) d.moves) (cut_of x d.goal) s

  -- the three parts of the rule
  dead_parts : (row : Row) → pattern_dead d x row ≡ true → (row_of_model d row ≡ true) × (gives row x ≡ true) × (off (cut_of x row) ≡ true)
  dead_parts row dead =
      let a = and_parts (row_of_model d row) _ dead in
      let b = and_parts (gives row x) _ a.1 in
      (a.0, b.0, b.1)

  dead_from : (row : Row) → row_of_model d row ≡ true → gives row x ≡ true → off (cut_of x row) ≡ true → pattern_dead d x row ≡ true
  dead_from row fits given none = and_from (row_of_model d row) _ fits (and_from (gives row x) _ given none)

  pub pattern_decides : Sealed d → product_of_sizes d.variables x ≤ 512 → PatternDecides d x
  unfolding PatternDecides
  pattern_decides ok small row = (
    (λ dead. let parts = dead_parts row dead in (parts.0, parts.1, (cut_off_decides d ok x small row parts.0 parts.1).0 parts.2)),
    (λ none. dead_from row none.0 none.1 ((cut_off_decides d ok x small row none.0 none.1).1 none.2)),
  )

  -- the cuts of the states along a plan are reached
  reached_along : (row : Row) (ns : List ℕ) (s t : Row) → Leads d s ns t → CutReached x d row (cut_of x s) → CutReached x d row (cut_of x t)
  reached_along row [] s t same r = subst (λ u. CutReached x d row (cut_of x u)) same r
  reached_along row (n ∷ ns) s t way r =
      let m = way.0 in
      reached_along row ns (progression m s) t way.3
      (subst (CutReached x d row) (sym (cut_progression x m s)) (onward_reached x d row m (nth_among d.moves n m way.1) (cut_of x s) r (cut_applicable x m s way.2)))

  -- a row that contains a dead one has its cut
  containing_dead : (r t : Row) → pattern_dead d x r ≡ true → row_of_model d t ≡ true → contained r t ≡ true → pattern_dead d x t ≡ true
  containing_dead r t dead fits inside =
      let parts = dead_parts r dead in
      let same = same_cuts x r t inside parts.1 in
      dead_from t fits same.1 (subst (λ s. off s ≡ true) same.0 parts.2)

  pub pattern_lawful : Sealed d → product_of_sizes d.variables x ≤ 512 → Lawful d (pattern_dead d x)
  unfolding PatternDecides
  pattern_lawful ok small = record {
    containing_rows_are_dead = containing_dead;
    dead_states_have_no_plan = λ s _ dead ns plan.
        let parts = dead_parts s dead in
        goal_not_reached x d s ((pattern_decides ok small s).0 dead).2 (cut_of x plan.0)
        (reached_along s ns s plan.0 plan.1 (first_reached x d s)) (cut_contained x d.goal plan.0 plan.2);
  }

pub pattern_decides_for_every_model : PatternDecidesForEveryModel
unfolding PatternDecidesForEveryModel
pattern_decides_for_every_model = pattern_decides
