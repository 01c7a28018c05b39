-- An entry is entered as the model has it that the book carries.
use Rattle.std.proofs.Common.{◌≡◌, ℕ, Ok, Err, refl, ap, subst, is_ok}
use Rattle.std.proofs.lemmas.Bool.{true≢false}
use Rattle.model.specs.Records.{ModelRecord}
use Rattle.model.specs.Tables.{Answer}
use Rattle.hand.specs.Gathering.{Gathering, enter_answer, after_entry}
use Rattle.session.specs.Turns.{State, state, Turn, quiet, gathers, entry_turn}

quiet_gathers : (a : Answer) → Ok tt ≡ a → (s : State) (g h : Gathering) → g ≡ h → ◌≡◌ {A = Turn} (quiet, state s.rows g) (gathers a s h)
quiet_gathers (Ok u) told s g h same = rw same refl
quiet_gathers (Err why) told s g h same = absurd (true≢false (ap is_ok told))

pub entry_done : (e d : ModelRecord) → e ≡ d → (s : State) (i v : ℕ) (g : Gathering) → g ≡ after_entry e.variables s.gathered i v → Ok tt ≡ enter_answer e.variables s.gathered i v → ◌≡◌ {A = Turn} (quiet, state s.rows g) (entry_turn d s i v)
entry_done e d same s i v g after told =
    subst (λ (x : ModelRecord). ◌≡◌ {A = Turn} (quiet, state s.rows g) (entry_turn x s i v)) same
    (quiet_gathers (enter_answer e.variables s.gathered i v) told s g (after_entry e.variables s.gathered i v) after)
