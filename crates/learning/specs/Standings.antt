-- What is known of how the parts stand to the moves, in the book's rows with all parts.
use Rattle.std.proofs.Common.{◌∙◌, length-set}
use Rattle.std.specs.Prelude.{◌≡◌, ℕ, ◌<◌, Bool, true, false, cond, List, ◌++◌, length, replicate, Some, None, Option, ◌==◌, slice_index_or, slice_set}
use Rattle.std.proofs.lemmas.List.{length-replicate}
use Rattle.model.specs.declared.row.Row.{Row}
use Rattle.model.specs.declared.moves.Move.{Move}
use Rattle.model.specs.Rows.{open_row, keeps, contained}
use Rattle.model.specs.Moves.{applicable, next_entry, progression}
use Rattle.model.specs.Records.{ModelRecord}
use Rattle.rules.specs.Rules.{covers, stays_in}
use Rattle.learning.specs.declared.standing.Standing.{Standing}
use Rattle.learning.specs.declared.standing.Standing.TheVariants.{Unknown, Stays, Covered, Dead, LeadsOut}
use Rattle.learning.specs.declared.standing.Growth.{Growth}
use Rattle.learning.specs.declared.standings.Standings.{Standings}

abbrev pub is_known : Standing → Bool
is_known (Unknown k) = false
is_known Stays = true
is_known (Covered k) = true
is_known Dead = true
is_known LeadsOut = true

abbrev pub leads_out : Standing → Bool
leads_out (Unknown k) = false
leads_out Stays = false
leads_out (Covered k) = false
leads_out Dead = false
leads_out LeadsOut = true

-- the part at the place k is contained in the row t
abbrev pub CoversAt : List Row → Row → ℕ → Type 0
CoversAt parts t k = (k < length parts) × (contained (slice_index_or parts k open_row) t ≡ true)

-- the place of a part that is contained in the row t, if there is one
abbrev pub Covering : List Row → Row → Option ℕ → Type 0
Covering parts t (Some k) = CoversAt parts t k
Covering parts t None = covers parts t ≡ false

-- what a standing says of the progression t of a part
abbrev pub StandsAt : (Row → Bool) → List Row → List Row → Row → Standing → Type 0
StandsAt dead rows parts t (Unknown k) = Unit {0}
StandsAt dead rows parts t Stays = covers rows t ≡ true
StandsAt dead rows parts t (Covered k) = CoversAt parts t k
StandsAt dead rows parts t Dead = dead t ≡ true
StandsAt dead rows parts t LeadsOut = (dead t ≡ false) × (covers (rows ++ parts) t ≡ false)

-- what it says of the part p and the move m
abbrev pub Stands : (Row → Bool) → List Row → List Row → Row → Move → Standing → Type 0
Stands dead rows parts p m (Unknown k) = Unit {0}
Stands dead rows parts p m Stays = applicable m p ≡ true → covers rows (progression m p) ≡ true
Stands dead rows parts p m (Covered k) = applicable m p ≡ true → CoversAt parts (progression m p) k
Stands dead rows parts p m Dead = applicable m p ≡ true → dead (progression m p) ≡ true
Stands dead rows parts p m LeadsOut = stays_in dead (rows ++ parts) p m ≡ false

-- the move m makes of the part p a row that has the entry which the grown part has more
abbrev pub gives_entry : Growth → Row → Move → Bool
gives_entry g p m = keeps g.entry (next_entry m p g.variable)

-- what stays known of the part p, as it is now, when a part has grown, which is p itself or another
abbrev pub after_growth : Growth → Bool → Row → Move → Standing → Standing
after_growth g itself p m (Unknown k) = Unknown k
after_growth g itself p m Stays = Stays
after_growth g itself p m (Covered k) = cond (k == g.place) (cond (gives_entry g p m) (Covered k) (Unknown k)) (Covered k)
after_growth g itself p m Dead = cond itself (Unknown 0) Dead
after_growth g itself p m LeadsOut = cond itself (Unknown 0) LeadsOut

-- the standing to the move n
abbrev pub standing_at : Standings → ℕ → Standing
standing_at s n = slice_index_or s.by_move n (Unknown 0)

abbrev pub with_standing : Standings → ℕ → Standing → Standings
with_standing s n standing = record { by_move = slice_set s.by_move n standing; full = length-set s.by_move n standing ∙ s.full }

abbrev pub none_known : Standings
none_known = record { by_move = replicate 128 (Unknown 0); full = length-replicate {A = Standing} 128 (Unknown 0) }

-- each standing of the part p is right
unfoldable pub AllStand : ModelRecord → (Row → Bool) → List Row → List Row → Row → Standings → Type 0
AllStand d dead rows parts p s = (n : ℕ) (m : Move) → n < length d.moves → m ≡ slice_index_or d.moves n m → Stands dead rows parts p m (standing_at s n)

-- of the standings s of the part p to these moves stays known what these are then
unfoldable pub Grown : List Move → Growth → Bool → Row → Standings → Standings → Type 0
Grown moves g itself p s then = (n : ℕ) (m : Move) → n < length moves → m ≡ slice_index_or moves n m → standing_at then n ≡ after_growth g itself p m (standing_at s n)

-- nothing is known of any part
abbrev pub NothingKnown : List Standings → Type 0
NothingKnown table = (k : ℕ) → slice_index_or table k none_known ≡ none_known

-- each standing of each part is right
unfoldable pub TableStands : ModelRecord → (Row → Bool) → List Row → List Row → List Standings → Type 0
TableStands d dead rows parts table = (k : ℕ) (p : Row) → k < length parts → p ≡ slice_index_or parts k p → AllStand d dead rows parts p (slice_index_or table k none_known)

-- of all standings in the table stays known what is in the one behind it, where the parts are given as they are then
unfoldable pub TableGrown : List Move → List Row → Growth → List Standings → List Standings → Type 0
TableGrown moves parts g table then =
    (k : ℕ) (p : Row) → k < length parts → p ≡ slice_index_or parts k p → Grown moves g (k == g.place) p (slice_index_or table k none_known) (slice_index_or then k none_known)
