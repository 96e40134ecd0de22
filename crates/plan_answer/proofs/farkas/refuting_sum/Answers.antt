use Rattle.std.proofs.Common.{◌≡◌, pos, to_z, of_z, ◌∙◌}
use mir.Syntax.{w128}
use Rattle.std.proofs.lemmas.Int.{to_z-of_z}
use Rattle.theory.specs.Problem.{S}
use Rattle.plan_answer.proofs.Viewed.{sums_same, value_is, size_is, size_past}
use Rattle.plan_answer.proofs.farkas.refuting_sum.Goals as goal

pub returns-in_err-sides : goal.returns-in_err-sides
returns-in_err-sides c = λ n low high.
    rw c.from_residual.ensures (size_past n c.args.sub.now low high c.args.values.now c.args.state.now c.args.multipliers.now c.as_slice-rows.result.now c.as_slice.result.now c.as_slice-rows.ensures c.as_slice.ensures c.in_err-sides.ensures)

pub returns : goal.returns
returns c = λ n low high.
    let f : to_z w128 (of_z w128 c.scale.result) ≡ pos S = to_z-of_z w128 c.scale.result (record { sfits = c.scale.type_inv }) ∙ c.scale.ensures in
    sums_same c.plus_multiple.result _ _ _ _
    (value_is n c.args.sub.now low high c.args.values.now c.args.state.now c.args.multipliers.now c.as_slice-rows.result.now c.as_slice.result.now c.as_slice-rows.ensures c.as_slice.ensures c.in_ok-sides.sides.value _ c.in_ok-sides.ensures.0 f)
    (size_is n c.args.sub.now low high c.args.values.now c.args.state.now c.args.multipliers.now c.as_slice-rows.result.now c.as_slice.result.now c.as_slice-rows.ensures c.as_slice.ensures c.in_ok-sides.sides.size.total _ c.in_ok-sides.ensures.1 f)
    (c.plus_multiple.ensures _ _ c.boxes_sum-boxes.ensures)
