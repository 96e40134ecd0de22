use Rattle.std.proofs.Common.{◌≡◌, ◌∙◌, ap, w64, of_z, to_z}
use mir.Syntax.{w128}
use Rattle.std.proofs.lemmas.Int.{to_z-of_z}
use Rattle.plan_answer.specs.Settling.{row_dual, row_multiplier_over}
use Rattle.plan_answer.proofs.SettledSteps.{row_more}
use Rattle.plan_answer.proofs.settling.rows_over.Goals as goal

pub loop-i-preserved : goal.loop-i-preserved
loop-i-preserved c =
    let dual : to_z w128 (of_z w128 c.dual_at.result) ≡ row_dual c.args.duals.now c.loop-i.i = to_z-of_z w128 c.dual_at.result (record { sfits = c.dual_at.type_inv }) ∙ c.dual_at.ensures in
    let own = to_z-of_z w64 c.row_over.result (record { sfits = c.row_over.type_inv }) ∙ c.row_over.ensures ∙ ap (row_multiplier_over c.args.divisor c.index-rows-i.result) dual in
    row_more c.args.divisor c.loop-i.i c.args.rows.now c.args.duals.now c.index-rows-i.result c.loop-i.found c.push.new.self _ _ c.loop-i-test.true c.index-rows-i.is own c.in_ok-push.ensures c.loop-i.invariant
