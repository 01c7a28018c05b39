-- The worked examples, by computing. Rows that were made in different ways are compared by their entries.
use Rattle.std.proofs.Common.{[], ◌∷◌, ◌++◌, refl, ap, lit≤}
use Rattle.lists.specs.Below.{all_below, any_below}
use Rattle.model.specs.Rows.{row_of}
use Rattle.model.specs.WrongEntries.{first_refusal}
use Rattle.detectors.specs.Facts.{facts_from}
use Rattle.detectors.specs.Closure.{first_facts, goal_missed}
use Rattle.detectors.specs.CutWalk as cuts
use Rattle.rules.specs.Rules.{keeps_rule_2}
use Rattle.lists.specs.Searches.{first_failing, first_failing_pair}
use Rattle.walk.specs.Walks.{arrive, try_move, try_moves, take_state, take_states, way, walk_from}
use Rattle.learning.specs.Parts.{first_part, regained}
use Rattle.learning.specs.Learns.{regain_lowest, regain_once, regain, regain_count, learned, entries_regained}
use Rattle.book.specs.Adding.{fresh}
use Rattle.book.specs.Offers.{entries_checked, offer_checked}
use Rattle.settling.specs.Rounds.{after_round, marks_nothing, after_rounds, round_count}
use Rattle.book.specs.Settles.{left_unmarked, rounds, settle_checked}
use Rattle.book.specs.Probes.{walk_of}
use Rattle.book.specs.Written.{entries_written}
use Rattle.orders.specs.Orders.{judge, probe, write}
use Rattle.orders.specs.Runs.{answer, rows_after, left_of, answers_run, rows_run, left_run}
use Rattle.worked.specs.Lane.{position, dock, four_written}
use Rattle.worked.specs.NewBooks.{bytes, probe_of}
use Rattle.worked.specs.Examples.{ModelsAreSealed, DetectorsAreChosen, LaneJudgements, LaneOffers, LaneSettles, LaneProbes, LaneBook, FreeProbes, SplitRows, KeyProbe, WorkedExamplesHold}
use Rattle.worked.proofs.SameLists.{rows_known, all_walked_known}

models_are_sealed : ModelsAreSealed
unfolding all_below
models_are_sealed = record {
  lane_is_sealed = record { at_most_32_variables = lit≤ tt; sizes_from_1_to_16 = refl; at_most_128_moves = lit≤ tt; move_values_below_sizes = refl; goal_values_below_sizes = refl; start_is_a_state = refl };
  free_is_sealed = record { at_most_32_variables = lit≤ tt; sizes_from_1_to_16 = refl; at_most_128_moves = lit≤ tt; move_values_below_sizes = refl; goal_values_below_sizes = refl; start_is_a_state = refl };
  split_is_sealed = record { at_most_32_variables = lit≤ tt; sizes_from_1_to_16 = refl; at_most_128_moves = lit≤ tt; move_values_below_sizes = refl; goal_values_below_sizes = refl; start_is_a_state = refl };
  key_is_sealed = record { at_most_32_variables = lit≤ tt; sizes_from_1_to_16 = refl; at_most_128_moves = lit≤ tt; move_values_below_sizes = refl; goal_values_below_sizes = refl; start_is_a_state = refl };
}

detectors_are_chosen : DetectorsAreChosen
detectors_are_chosen = record { kind_0_is_bare = λ vs. refl; kind_1_is_relaxed = λ vs. refl; kind_2_is_a_pattern = refl }

lane_judgements : LaneJudgements
unfolding answer rows_after answers_run all_below first_refusal facts_from first_facts goal_missed cuts.walk_from cuts.walked cuts.cut_off
lane_judgements = record { relaxed_is_silent_at_the_start = refl; pattern_calls_the_start_dead = refl }

lane_offers : LaneOffers
unfolding answer rows_after answers_run rows_run all_below any_below row_of first_refusal entries_checked offer_checked first_failing first_failing_pair fresh
lane_offers = record {
  four_values_pass_together = refl;
  the_book_has_the_four = refl;
  from_lane_1_move_1_leads_out = refl;
  what_is_refused_adds_no_row = refl;
  lane_2_does_not_disagree_with_the_goal = refl;
}

lane_settles : LaneSettles
unfolding answer rows_after answers_run rows_run all_below any_below row_of first_refusal entries_checked keeps_rule_2 after_round marks_nothing after_rounds round_count left_unmarked rounds settle_checked fresh cuts.walk_from cuts.walked cuts.cut_off
lane_settles = record {
  four_of_six_values_are_left = refl;
  the_book_has_the_four = refl;
  without_the_dock_none_is_left = refl;
  a_position_alone_is_not_left = refl;
  over_a_pattern_it_is = refl;
}

lane_probes : LaneProbes
unfolding answer rows_after left_of answers_run rows_run left_run all_below any_below row_of first_refusal keeps_rule_2 arrive try_move try_moves take_state take_states way walk_from walk_of first_part regained regain_lowest regain_once regain regain_count learned entries_regained fresh
lane_probes = record {
  the_start_is_dead = refl;
  four_values_are_learned = rows_known _ _ refl;
  eight_states_are_listed = ap (λ ws. probe (position 0 0) ws (bytes 256) ∷ []) (all_walked_known _ _ refl);
  seven_places_are_too_few = refl;
  seven_states_are_listed = ap (λ ws. probe (position 0 0) ws (bytes 256) ∷ []) (all_walked_known _ _ refl);
  and_nothing_is_learned = refl;
  in_the_same_book_a_dead_row_asks_no_walk = refl;
  and_no_place_is_used = ap (λ ws. probe (position 0 0) ws (bytes 256) ∷ probe_of (position 2 1) ∷ []) (all_walked_known _ _ refl);
  the_goal_has_an_empty_plan = refl;
  the_goal_alone_is_listed = refl;
}

lane_book : LaneBook
unfolding answer rows_after left_of answers_run left_run all_below any_below row_of first_refusal keeps_rule_2 arrive try_move try_moves take_state take_states way walk_from walk_of first_part regained regain_lowest regain_once regain regain_count learned entries_regained fresh entries_written
lane_book = record {
  it_answers_three_orders = refl;
  it_lies_at_the_front_of_the_buffer = ap (λ ws. probe (position 0 0) ws (bytes 256) ∷ judge (dock 0) ∷ write (four_written ++ bytes 15) ∷ []) (all_walked_known _ _ refl);
}

free_probes : FreeProbes
unfolding answer rows_after left_of answers_run left_run all_below any_below row_of first_refusal arrive try_move try_moves take_state take_states way walk_from walk_of
free_probes = record {
  the_start_has_a_plan = refl;
  its_moves_are_2_3_0_1 = ap (λ ws. probe (position 0 0) ws (2 ∷ 3 ∷ 0 ∷ 1 ∷ bytes 252) ∷ []) (all_walked_known _ _ refl);
  three_bytes_are_too_few = refl;
  the_three_bytes_stay = ap (λ ws. probe (position 0 0) ws (bytes 3) ∷ []) (all_walked_known _ _ refl);
}

split_rows : SplitRows
unfolding answer rows_after answers_run rows_run all_below any_below row_of first_refusal entries_checked offer_checked first_failing first_failing_pair keeps_rule_2 after_round marks_nothing after_rounds round_count left_unmarked rounds settle_checked fresh
split_rows = record { rows_do_not_cover_jointly = refl; two_of_three_are_left = refl; the_book_has_the_two = refl }

key_probe : KeyProbe
unfolding answer rows_after answers_run rows_run all_below any_below row_of first_refusal keeps_rule_2 arrive try_move try_moves take_state take_states way walk_from walk_of first_part regained regain_lowest regain_once regain regain_count learned entries_regained fresh
key_probe = record { the_start_is_dead = refl; the_key_is_regained = rows_known _ _ refl }

pub worked_examples_hold : WorkedExamplesHold
worked_examples_hold = record {
  models_are_sealed = models_are_sealed;
  detectors_are_chosen = detectors_are_chosen;
  lane_judgements = lane_judgements;
  lane_offers = lane_offers;
  lane_settles = lane_settles;
  lane_probes = lane_probes;
  lane_book = lane_book;
  free_probes = free_probes;
  split_rows = split_rows;
  key_probe = key_probe;
}
