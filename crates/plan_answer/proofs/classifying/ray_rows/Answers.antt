use Rattle.std.proofs.Common.{◌≡◌, ◌∙◌, ℕ, ℤ, List, ap₂}
use Rattle.problem.specs.declared.parts.Row.{Row}
use Rattle.theory.specs.Problem.{node_at}
use Rattle.theory.specs.View.{problem_of}
use Rattle.plan_answer.specs.Classifying.{ray_rows}
use Rattle.plan_answer.specs.Settling.{row_multipliers_over}
use Rattle.plan_answer.proofs.ClassifiedInfeasible.{rows_at}
use Rattle.plan_answer.proofs.SettledNode.{if_ok}
use Rattle.plan_answer.proofs.classifying.ray_rows.Goals as goal

pub returns : goal.returns
returns c =
    let rows = c.as_slice.ensures ∙ rows_at c.args.problem.now c.args.node c.sub.result.now c.requires.node c.sub.ensures in
    let same = ap₂ (λ (divisor : ℕ) (rs : List Row). row_multipliers_over divisor 0 rs c.args.duals.now) c.power.ensures rows in
    if_ok (λ (found : List ℤ). found ≡ row_multipliers_over c.power.result 0 c.as_slice.result.now c.args.duals.now) (λ (found : List ℤ). found ≡ ray_rows (node_at (problem_of c.args.problem.now) c.args.node) c.args.duals.now c.args.digits) c.rows_over.result
    (λ found is. is ∙ same) c.rows_over.ensures
