use Rattle.std.proofs.Common.{◌≡◌, ◌++◌, ◌∷◌, [], List, take, Ok, refl, sym, ap, ◌∙◌, arith, false, true, ◌+◌, ℕ}
use Rattle.std.specs.Prelude.{vec_items}
use Rattle.std.proofs.lemmas.List.{take_all, take-append-le}
use Rattle.model.specs.declared.row.Row.{Row}
use Rattle.model.specs.Rows.{same_row}
use Rattle.first_come.specs.Arrivals.{has}
use Rattle.book.specs.Adding.{fresh, overfull}
use Rattle.book.proofs.FreshRows.{in_the_end, held_already, pushed, longer, nothing_to_come, over, not_over, number_added}
use Rattle.book.proofs.adding.add_fresh.Goals as goal

pub loop-row-init : goal.loop-row-init
unfolding in_the_end
loop-row-init c = record {
  whole = refl;
  front = take_all c.len-before.result (vec_items c.args.rows.now) (omega (arith, c.len-before.ensures, c.args.rows.now.ok.0));
  longer = omega (arith, c.len-before.ensures);
  few = c.requires.few;
  room = c.requires.room;
}

pub loop-row-preserved-then-holds : goal.loop-row-preserved-then-holds
loop-row-preserved-then-holds c =
    let rows = vec_items c.loop-row.rows in
    let held : has same_row rows c.row-item.result ≡ true = cc in
    record {
      whole = sym (held_already rows c.args.list.now c.loop-row.row-index c.row-item.result (omega arith) c.row-item.is held) ∙ c.loop-row.invariant.whole;
      front = c.loop-row.invariant.front;
      longer = c.loop-row.invariant.longer;
      few = c.loop-row.invariant.few;
      room = c.loop-row.invariant.room;
    }

pub loop-row-preserved : goal.loop-row-preserved
loop-row-preserved c =
    let rows = vec_items c.loop-row.rows in
    let list = c.args.list.now in
    let i = c.loop-row.row-index in
    let x = c.row-item.result in
    let new : has same_row rows x ≡ false = cc in
    let items = c.push_reserved.ensures.items in
    record {
      whole = ap (λ (r : List Row). in_the_end r list (i + 1)) items ∙ sym (pushed rows list i x (omega arith) c.row-item.is new) ∙ c.loop-row.invariant.whole;
      front = ap (take c.len-before.result) items ∙ take-append-le c.len-before.result rows (x ∷ []) (omega (arith, c.loop-row.invariant.longer, c.loop-row.rows.ok.0)) ∙ c.loop-row.invariant.front;
      longer = omega (arith, c.push_reserved.ensures.len, c.loop-row.invariant.longer);
      few = omega (arith, c.push_reserved.ensures.len, c.len.ensures, c.if-len-ge256.false);
      room = omega (arith, c.push_reserved.ensures.capacity, c.loop-row.invariant.room);
    }

-- a row that is new, where 256 are held: all would be too many
is_over : (c : goal.After-from) → overfull (vec_items c.args.rows.now) c.args.list.now ≡ true
is_over c =
    let rows = vec_items c.loop-row.rows in
    let list = c.args.list.now in
    let new : has same_row rows c.row-item.result ≡ false = cc in
    let long = longer rows list c.loop-row.row-index c.row-item.result (omega arith) c.row-item.is new in
    over (vec_items c.args.rows.now) list (in_the_end rows list c.loop-row.row-index) c.loop-row.invariant.whole (omega (arith, long, c.len.ensures, c.if-len-ge256.true, c.loop-row.rows.ok.0))

pub returns-then-len-ge256-clause-answer : goal.returns-then-len-ge256-clause-answer
returns-then-len-ge256-clause-answer c = let full = is_over c in rw (full, c.from.ensures)

pub returns-then-len-ge256-clause-after : goal.returns-then-len-ge256-clause-after
returns-then-len-ge256-clause-after c = let full = is_over c in rw full (c.truncate.ensures.items ∙ c.loop-row.invariant.front)

-- in the end all are held, and they are not too many
all_held : (c : goal.After-len-2) → vec_items c.loop-row.rows ≡ vec_items c.args.rows.now ++ fresh (vec_items c.args.rows.now) c.args.list.now
all_held c = sym (nothing_to_come (vec_items c.loop-row.rows) c.args.list.now c.loop-row.row-index (omega arith)) ∙ c.loop-row.invariant.whole

is_within : (c : goal.After-len-2) → overfull (vec_items c.args.rows.now) c.args.list.now ≡ false
is_within c = not_over (vec_items c.args.rows.now) c.args.list.now (vec_items c.loop-row.rows) (all_held c) (omega (arith, c.loop-row.invariant.few, c.loop-row.rows.ok.0))

pub returns-clause-answer : goal.returns-clause-answer
returns-clause-answer c =
    let fits = is_within c in
    let count = number_added (vec_items c.args.rows.now) c.args.list.now (vec_items c.loop-row.rows) (all_held c) in
    rw fits (ap (λ (n : ℕ). Ok n) (omega (arith, count, c.len-2.ensures, c.len-before.ensures, c.loop-row.rows.ok.0, c.args.rows.now.ok.0)))

pub returns-clause-after : goal.returns-clause-after
returns-clause-after c = let fits = is_within c in rw fits (all_held c)
