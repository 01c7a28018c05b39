-- The moves of a plan pass through states only.
use Rattle.std.proofs.Common.{◌≡◌, true, [], ◌∷◌, subst}
use Rattle.model.specs.Limits.{move_fits}
use Rattle.model.specs.Records.{state_of_model}
use Rattle.model.specs.Moves.{progression}
use Rattle.model.specs.MoveLaws.{StatesLeadToStates}
use Rattle.lists.proofs.Members.{nth_among, all_among}
use Rattle.model.proofs.Progressions.{state_progresses}

pub states_lead_to_states : StatesLeadToStates
unfolding StatesLeadToStates
states_lead_to_states d [] s t sealed state same = subst (λ r. state_of_model d r ≡ true) same state
states_lead_to_states d (n ∷ ns) s t sealed state way =
    let fits = all_among (move_fits d.variables) d.moves way.0 sealed.move_values_below_sizes (nth_among d.moves n way.0 way.1) in
    states_lead_to_states d ns (progression way.0 s) t sealed (state_progresses d way.0 s fits state) way.3
