-- The move begun last, as the table lends it.
use Rattle.std.proofs.Common.{◌≡◌, ℕ, ◌-◌, ◌<◌, List, [], length, get_or, set, ap, ap₂, ◌∙◌, arith}
use Rattle.std.proofs.lemmas.List.{get_or_read_under}
use Rattle.model.specs.declared.moves.Move.{Move}
use Rattle.model.specs.declared.variable.Variable.{Variable}
use Rattle.model.specs.declared.in_hand.Part.{Part}
use Rattle.model.specs.Tables.{begun, last_begun, with_last}
use Rattle.model.specs.Writing.{move_entered}

-- the move m of the table is lent, and what it becomes by an entry stands in its place; n is the table's length
pub written_last : (ms : List Move) (n : ℕ) (m : Move) → n ≡ length ms → 0 < n → m ≡ get_or ms (n - 1) m → (vs as_lent : List Variable) (part : Part) (i v : ℕ) (after : Move) → as_lent ≡ vs → after ≡ move_entered part as_lent m i v → set ms (n - 1) after ≡ with_last ms (move_entered part vs (last_begun ms) i v)
written_last ms n m long some read vs as_lent part i v after same is =
    let last : m ≡ last_begun ms = get_or_read_under ms (n - 1) n m (begun []) read (omega arith) long ∙ ap (λ k. get_or ms (k - 1) (begun [])) long in
    ap₂ (λ k x. set ms (k - 1) x) long (is ∙ ap₂ (λ l x. move_entered part l x i v) same last)
