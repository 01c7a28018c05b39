use Rattle.std.proofs.Common.{◌≡◌, sym, subst, refl, arith, Bool, true, List, []}
use Rattle.std.specs.List.{list_all}
use Rattle.model.specs.declared.row.Row.{Row}
use Rattle.model.specs.Records.{ModelRecord, row_of_model}
use Rattle.model.specs.Rows.{same_row}
use Rattle.first_come.specs.Arrivals.{Distinct}
use Rattle.rules.specs.Rules.{keeps_rules}
use Rattle.book.proofs.NoPlan.{book_lawful}
use Rattle.book.proofs.book.Book.open.Goals as goal

-- no row breaks a rule
none_breaks : (d : ModelRecord) (dead : Row → Bool) (rows : List Row) → rows ≡ [] → keeps_rules d dead rows ≡ true
unfolding keeps_rules
none_breaks d dead rows none = rw none refl

pub invariant_of-result : goal.invariant_of-result
invariant_of-result g c =
    let made = c.in_ok-rows.ensures in
    let none = sym made.items in
    record {
      few = omega (arith, made.len);
      room = omega (arith, made.capacity);
      fit = subst (λ (l : List Row). list_all (row_of_model (g.D.Detector.carried c.args.detector)) l ≡ true) none refl;
      once = subst (λ (l : List Row). Distinct same_row l) none tt;
      rules = none_breaks (g.D.Detector.carried c.args.detector) (g.D.Detector.dead c.args.detector) c.in_ok-rows.rows.items made.items;
    }

pub returns-clause-lawful : goal.returns-clause-lawful
returns-clause-lawful g c =
    let d = g.D.Detector.carried c.args.detector in
    let dead = g.D.Detector.dead c.args.detector in
    let rows = c.in_ok-rows.rows.items in
    book_lawful d dead rows (g.met.D.Detector.sealed c.args.detector) (none_breaks d dead rows c.in_ok-rows.ensures.items)
