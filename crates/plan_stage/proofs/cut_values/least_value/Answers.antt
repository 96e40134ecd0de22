use Rattle.std.proofs.Common.{◌≤◌, ◌^◌, ℤ, nat_abs, sym, subst, ◌∙◌}
use mir.Syntax.{w128}
use Rattle.std.specs.Int.{int_min}
use Rattle.std.proofs.lemmas.Int.{to_z-of_z}
use Rattle.plan_stage.specs.Stage.{at_low, at_high}
use Rattle.plan_stage.proofs.Growing.{summed}
use Rattle.plan_stage.proofs.cut_values.least_value.Goals as goal

pub loop-k-preserved : goal.loop-k-preserved
loop-k-preserved c =
    let product = to_z-of_z w128 c.least_product.result (record { sfits = c.least_product.type_inv }) in
    let sum = to_z-of_z w128 c.sum-value.result (record { sfits = c.sum-value.type_inv }) ∙ c.sum-value.ensures.value in
    let more = summed c.args.cut.now.alpha _ _ _ c.loop-k.k (λ j. int_min (at_low c.args.subproblem.now c.args.cut.now j) (at_high c.args.subproblem.now c.args.cut.now j)) c.loop-k.invariant.value c.loop-k.invariant.small (product ∙ c.least_product.ensures.value) (subst (λ (z : ℤ). nat_abs z ≤ 2 ^ 104) (sym product) c.least_product.ensures.small) sum in
    record { value = more.0; small = more.1 }
