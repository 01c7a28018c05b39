-- How the moves of candidates stand.
use Rattle.std.specs.Prelude.{◌≡◌, ◌<◌, ℕ, Bool, true, false, List, [], length, replicate, take, get_or}
use Rattle.model.specs.declared.row.Row.{Row}
use Rattle.model.specs.declared.moves.Move.{Move}
use Rattle.model.specs.Moves.{progression}
use Rattle.model.specs.Rows.{contained}
use Rattle.rules.specs.Rules.{stays_in}
use Rattle.settling.specs.declared.candidate.Candidate.{Candidate}
use Rattle.settling.specs.declared.standing.Standing.{Standing}
use Rattle.settling.specs.declared.standing.Standing.TheVariants.{Unseen, Stays, CoveredBy}
use Rattle.settling.specs.declared.standings.Standings.{Standings}
use Rattle.std.proofs.lemmas.List.{length-replicate}
use Rattle.settling.specs.Candidates.{covered}

-- the candidate at the place k is contained in the row t, and no unmarked one before it
pub record CoveredAt (cs : List Candidate) (t : Row) (k : ℕ) : Type 0 where
  pub within : k < length cs
  pub contains : (c : Candidate) → c ≡ get_or cs k c → contained c.row t ≡ true
  pub none_before : covered (take k cs) t ≡ false

-- What a standing says is true of the move m of the row r; `calls` says which rows are called dead.
abbrev pub Stands : (Row → Bool) → List Candidate → Row → Move → Standing → Type 0
Stands calls cs r m Unseen = Unit {0}
Stands calls cs r m Stays = stays_in calls [] r m ≡ true
Stands calls cs r m (CoveredBy k) = CoveredAt cs (progression m r) k

-- so do the standings of all moves
unfoldable pub AllStand : (Row → Bool) → List Candidate → Row → List Move → List Standing → Type 0
AllStand calls cs r ms standings = (i : ℕ) (m : Move) → i < length ms → m ≡ get_or ms i m → Stands calls cs r m (get_or standings i Unseen)

-- and so they do of all candidates
unfoldable pub TableStands : (Row → Bool) → List Candidate → List Move → List Standings → Type 0
TableStands calls cs ms table =
    (j : ℕ) (c : Candidate) (own : Standings) → j < length cs → c ≡ get_or cs j c → own ≡ get_or table j own → AllStand calls cs c.row ms own.of_moves

-- the standings where nothing is known yet
abbrev pub unseen : Standings
unseen = record { of_moves = replicate 128 Unseen; full = length-replicate {A = Standing} 128 Unseen }
