-- What the lines of a sheet promise.
use Rattle.std.specs.Prelude.{◌≡◌, ℕ, Bool, true, false, List, [], ◌∷◌, ◌++◌, Some}
use Rattle.model.specs.declared.row.Row.{Row}
use Rattle.model.specs.Records.{ModelRecord}
use Rattle.sheet.specs.Commands.{commands_from}
use Rattle.detectors.specs.Shipping.{told_dead}
use Rattle.hand.specs.Gathering.{nothing}
use Rattle.orders.specs.Orders.{Brought, AnswerTold}
use Rattle.orders.specs.Runs.{answers_run, left_run}
use Rattle.orders.specs.WholeRuns.{PromiseOverTheWholeRun}
use Rattle.session.specs.Turns.{bytes_told, comes_to_the_end, lent_to, orders_given}
use Rattle.desk.specs.Lines.{Said, end, model_line, stop_line}
use Rattle.desk.specs.Lines as lines
use Rattle.desk.specs.Carrying.{answer_line}
use Rattle.desk.specs.Openings.{Opened, unsealed, unchosen, orders}

-- the lines of answers, one after another, with the orders as they are afterwards
abbrev pub answer_lines : List AnswerTold → List Brought → List Said
answer_lines [] left = []
answer_lines (a ∷ answers) [] = []
answer_lines (a ∷ answers) (o ∷ left) = answer_line a (bytes_told a (lent_to o)) ∷ answer_lines answers left

-- the line is `end`, or where the run does not come to the end of the commands, a stop
abbrev pub Closes : Bool → Said → Type 0
Closes true line = line ≡ end
Closes false line = (number : ℕ) × (place : ℕ) × (line ≡ lines.stop number place)

-- The lines tell the run of these orders on a new book over a detector that carries the model d and calls the rows of `dead` dead: a line for each answer, in
-- order, and a last one that closes. And that run keeps the promise over whole runs.
pub record KeepsThePromise (d : ModelRecord) (dead : Row → Bool) (given : List Brought) (to_the_end : Bool) (lines : List Said) : Type 0 where
  pub last : Said
  pub the_last_closes : Closes to_the_end last
  pub a_line_for_each_answer : lines ≡ answer_lines (answers_run d dead [] given) (left_run d dead [] given) ++ last ∷ []
  pub the_run_keeps_it : PromiseOverTheWholeRun d dead given (left_run d dead [] given) (answers_run d dead [] given)

-- The lines of a sheet that opens so: one that tells the stop, or the model's and that; or the model's, and behind it those of the orders, which keep the
-- promise.
abbrev pub SheetKeepsThePromise : List ℕ → Opened → List Said → Type 0
SheetKeepsThePromise sheet (unsealed stop) said = said ≡ stop_line stop ∷ []
SheetKeepsThePromise sheet (unchosen d stop) said = said ≡ model_line d ∷ stop_line stop ∷ []
SheetKeepsThePromise sheet (orders d detector place) said =
    let items = commands_from sheet place in
    (behind : List Said) × (said ≡ model_line d ∷ behind) × KeepsThePromise d (told_dead d detector) (orders_given d.variables items) (comes_to_the_end d.variables (Some nothing) items) behind
