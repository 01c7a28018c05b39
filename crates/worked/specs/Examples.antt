-- The worked examples: runs of orders on a new book over a detector of a model.
use Rattle.std.specs.Prelude.{◌≡◌, ℕ, ◌+◌, true, false, List, [], ◌∷◌, ◌++◌, take, Some, None, Ok}
use Rattle.model.specs.declared.variable.Variable.{Variable}
use Rattle.model.specs.Records.{Sealed}
use Rattle.detectors.specs.Choosing.{kind_answer}
use Rattle.detectors.specs.WorkedModels.{LANE, DOCK}
use Rattle.walk.specs.Walks.{first}
use Rattle.orders.specs.Orders.{judge, probe, offer, settle, write, judged, called_dead, has_plan, offered, settled, wrote, refused}
use Rattle.worked.specs.Lane.{lane, dock, position, lane_model, six_values, four_values, four_written, eight_listed}
use Rattle.worked.specs.Free.{free_model}
use Rattle.worked.specs.Split.{w_x_y, split_model, three_rows}
use Rattle.worked.specs.Key.{gate_and_key, key_model}
use Rattle.worked.specs.NewBooks.{bare, relaxed, pattern_over, answers, rows, left, places, bytes, probe_with, probe_of}

-- Each record is such as a sealed model has, so that what is proved of sealed models is proved of these.
pub record ModelsAreSealed : Type 0 where
  pub lane_is_sealed : Sealed lane_model
  pub free_is_sealed : Sealed free_model
  pub split_is_sealed : Sealed split_model
  pub key_is_sealed : Sealed key_model

-- The detectors are chosen by their kinds and operands.
pub record DetectorsAreChosen : Type 0 where
  pub kind_0_is_bare : (vs : List Variable) → kind_answer vs 0 0xff 0xff 0xff ≡ Ok bare
  pub kind_1_is_relaxed : (vs : List Variable) → kind_answer vs 1 0xff 0xff 0xff ≡ Ok relaxed
  pub kind_2_is_a_pattern : kind_answer lane_model.variables 2 LANE DOCK 0xff ≡ Ok (pattern_over LANE DOCK)

pub record LaneJudgements : Type 0 where
  pub relaxed_is_silent_at_the_start : answers lane_model relaxed (judge (position 0 0) ∷ []) ≡ judged false ∷ []
  pub pattern_calls_the_start_dead : answers lane_model (pattern_over LANE DOCK) (judge (position 0 0) ∷ []) ≡ judged true ∷ []

pub record LaneOffers : Type 0 where
  pub four_values_pass_together : answers lane_model bare (offer four_values ∷ []) ≡ offered 4 ∷ []
  pub the_book_has_the_four : rows lane_model bare (offer four_values ∷ []) ≡ four_values
  pub from_lane_1_move_1_leads_out : answers lane_model bare (offer (lane 0 ∷ lane 1 ∷ []) ∷ []) ≡ refused 13 (Some 1) (Some 1) ∷ []
  pub what_is_refused_adds_no_row : rows lane_model bare (offer (lane 0 ∷ lane 1 ∷ []) ∷ []) ≡ []
  pub lane_2_does_not_disagree_with_the_goal : answers lane_model bare (offer (lane 2 ∷ []) ∷ []) ≡ refused 12 (Some 0) None ∷ []

pub record LaneSettles : Type 0 where
  pub four_of_six_values_are_left : answers lane_model bare (settle six_values ∷ []) ≡ settled 4 1 ∷ []
  pub the_book_has_the_four : rows lane_model bare (settle six_values ∷ []) ≡ four_values
  pub without_the_dock_none_is_left : answers lane_model bare (settle (lane 0 ∷ lane 1 ∷ lane 2 ∷ []) ∷ []) ≡ settled 0 3 ∷ []
  pub a_position_alone_is_not_left : answers lane_model bare (settle (position 2 1 ∷ []) ∷ []) ≡ settled 0 2 ∷ []
  pub over_a_pattern_it_is : answers lane_model (pattern_over LANE DOCK) (settle (position 2 1 ∷ []) ∷ []) ≡ settled 1 1 ∷ []

pub record LaneProbes : Type 0 where
  pub the_start_is_dead : answers lane_model bare (probe_of (position 0 0) ∷ []) ≡ called_dead 8 4 0 ∷ []
  pub four_values_are_learned : rows lane_model bare (probe_of (position 0 0) ∷ []) ≡ four_values
  pub eight_states_are_listed : left lane_model bare (probe_of (position 0 0) ∷ []) ≡ probe (position 0 0) (eight_listed ++ places 248) (bytes 256) ∷ []
  pub seven_places_are_too_few : answers lane_model bare (probe_with (position 0 0) 7 256 ∷ []) ≡ refused 16 None None ∷ []
  pub seven_states_are_listed : left lane_model bare (probe_with (position 0 0) 7 256 ∷ []) ≡ probe (position 0 0) (take 7 eight_listed) (bytes 256) ∷ []
  pub and_nothing_is_learned : rows lane_model bare (probe_with (position 0 0) 7 256 ∷ []) ≡ []
  pub in_the_same_book_a_dead_row_asks_no_walk : answers lane_model bare (probe_of (position 0 0) ∷ probe_of (position 2 1) ∷ []) ≡ called_dead 8 4 0 ∷ called_dead 0 0 0 ∷ []
  pub and_no_place_is_used :
      left lane_model bare (probe_of (position 0 0) ∷ probe_of (position 2 1) ∷ [])
      ≡ probe (position 0 0) (eight_listed ++ places 248) (bytes 256) ∷ probe_of (position 2 1) ∷ []
  pub the_goal_has_an_empty_plan : answers lane_model bare (probe_of (position 2 2) ∷ []) ≡ has_plan 1 0 ∷ []
  pub the_goal_alone_is_listed : left lane_model bare (probe_of (position 2 2) ∷ []) ≡ probe (position 2 2) (first (position 2 2) ∷ places 255) (bytes 256) ∷ []

-- a book that learns, judges and is written
pub record LaneBook : Type 0 where
  pub it_answers_three_orders : answers lane_model bare (probe_of (position 0 0) ∷ judge (dock 0) ∷ write (bytes 32) ∷ []) ≡ called_dead 8 4 0 ∷ judged true ∷ wrote 17 ∷ []
  pub it_lies_at_the_front_of_the_buffer :
      left lane_model bare (probe_of (position 0 0) ∷ judge (dock 0) ∷ write (bytes 32) ∷ [])
      ≡ probe (position 0 0) (eight_listed ++ places 248) (bytes 256) ∷ judge (dock 0) ∷ write (four_written ++ bytes 15) ∷ []

pub record FreeProbes : Type 0 where
  pub the_start_has_a_plan : answers free_model bare (probe_of (position 0 0) ∷ []) ≡ has_plan 8 4 ∷ []
  pub its_moves_are_2_3_0_1 : left free_model bare (probe_of (position 0 0) ∷ []) ≡ probe (position 0 0) (eight_listed ++ places 248) (2 ∷ 3 ∷ 0 ∷ 1 ∷ bytes 252) ∷ []
  pub three_bytes_are_too_few : answers free_model bare (probe_with (position 0 0) 256 3 ∷ []) ≡ refused 17 None None ∷ []
  pub the_three_bytes_stay : left free_model bare (probe_with (position 0 0) 256 3 ∷ []) ≡ probe (position 0 0) (eight_listed ++ places 248) (bytes 3) ∷ []

pub record SplitRows : Type 0 where
  pub rows_do_not_cover_jointly : answers split_model bare (offer three_rows ∷ []) ≡ refused 13 (Some 0) (Some 0) ∷ []
  pub two_of_three_are_left : answers split_model bare (settle three_rows ∷ []) ≡ settled 2 2 ∷ []
  pub the_book_has_the_two : rows split_model bare (settle three_rows ∷ []) ≡ w_x_y 1 0 0 ∷ w_x_y 1 1 0 ∷ []

pub record KeyProbe : Type 0 where
  pub the_start_is_dead : answers key_model bare (probe_of (gate_and_key 0 0) ∷ []) ≡ called_dead 1 1 1 ∷ []
  pub the_key_is_regained : rows key_model bare (probe_of (gate_and_key 0 0) ∷ []) ≡ gate_and_key 0 0 ∷ []

pub record WorkedExamplesHold : Type 0 where
  pub models_are_sealed : ModelsAreSealed
  pub detectors_are_chosen : DetectorsAreChosen
  pub lane_judgements : LaneJudgements
  pub lane_offers : LaneOffers
  pub lane_settles : LaneSettles
  pub lane_probes : LaneProbes
  pub lane_book : LaneBook
  pub free_probes : FreeProbes
  pub split_rows : SplitRows
  pub key_probe : KeyProbe

-- how many there are, record by record
abbrev pub number_of_examples : ℕ
number_of_examples = 4 + 3 + 2 + 5 + 5 + 10 + 2 + 4 + 3 + 2
