use Rattle.std.proofs.Common.{◌∙◌, arith}
use Rattle.plan_mend.proofs.Rows.{few_rows, rows_counted}
use Rattle.plan_mend.proofs.stage.row_count.Goals as goal

pub overflow_cast-result : goal.overflow_cast-result
overflow_cast-result c = omega (arith, c.len.ensures, few_rows c.args.problem.now c.parts.ensures.validated c.args.node c.requires c.sub.result.now c.sub.ensures)

pub returns : goal.returns
returns c = c.len.ensures ∙ rows_counted c.args.problem.now c.parts.ensures.validated c.args.node c.requires c.sub.result.now c.sub.ensures
