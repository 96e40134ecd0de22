use Rattle.std.proofs.Common.{◌≡◌, ◌≤◌, ◌^◌, ℕ, ℤ, ◌+ℤ◌, List, length, nat_abs, arith, ap, sym, subst, ◌∙◌}
use mir.Syntax.{w128}
use Rattle.std.specs.Int.{int_max}
use Rattle.std.proofs.lemmas.Int.{to_z-of_z}
use Rattle.base_num.specs.Sums.{sum_to}
use Rattle.plan_stage.specs.Stage.{at_low, at_high}
use Rattle.plan_stage.proofs.Growing.{summed}
use Rattle.plan_stage.proofs.OutBoxes.{as_many, box_at}
use Rattle.plan_stage.proofs.cut_values.greatest_value.Goals as goal

pub bounds-slopes-k : goal.bounds-slopes-k
bounds-slopes-k c = omega (arith, as_many c.args.subproblem.now c.args.boxes.now c.requires.boxes, c.requires.spans.slopes, c.loop-k-test.true, ap (λ (zs : List ℤ). length zs) c.as_slice-slopes.ensures)

pub greatest_product-requires-clause-there : goal.greatest_product-requires-clause-there
greatest_product-requires-clause-there c = omega (arith, as_many c.args.subproblem.now c.args.boxes.now c.requires.boxes, c.loop-k-test.true)

pub greatest_product-requires-clause-ends : goal.greatest_product-requires-clause-ends
greatest_product-requires-clause-ends c = box_at c.args.subproblem.now c.args.boxes.now c.loop-k.k _ c.requires.boxes (omega (arith, as_many c.args.subproblem.now c.args.boxes.now c.requires.boxes, c.loop-k-test.true))

pub sum-value-requires-clause-a_small : goal.sum-value-requires-clause-a_small
sum-value-requires-clause-a_small c = omega (arith, as_many c.args.subproblem.now c.args.boxes.now c.requires.boxes, c.requires.few, c.loop-k-test.true, c.loop-k.invariant.small)

pub loop-k-preserved : goal.loop-k-preserved
loop-k-preserved c =
    let product = to_z-of_z w128 c.greatest_product.result (record { sfits = c.greatest_product.type_inv }) in
    let sum = to_z-of_z w128 c.sum-value.result (record { sfits = c.sum-value.type_inv }) ∙ c.sum-value.ensures.value in
    let more = summed c.args.cut.now.alpha _ _ _ c.loop-k.k (λ j. int_max (at_low c.args.subproblem.now c.args.cut.now j) (at_high c.args.subproblem.now c.args.cut.now j)) c.loop-k.invariant.value c.loop-k.invariant.small (product ∙ c.greatest_product.ensures.value) (subst (λ (z : ℤ). nat_abs z ≤ 2 ^ 104) (sym product) c.greatest_product.ensures.small) sum in
    record { value = more.0; small = more.1 }

pub returns-clause-value : goal.returns-clause-value
returns-clause-value c =
    let all : c.loop-k.k ≡ length c.args.subproblem.now.outs = omega (arith, as_many c.args.subproblem.now c.args.boxes.now c.requires.boxes, c.loop-k.auto.k-end, c.loop-k-test.false) in
    c.loop-k.invariant.value ∙ ap (λ (n : ℕ). c.args.cut.now.alpha +ℤ sum_to n (λ j. int_max (at_low c.args.subproblem.now c.args.cut.now j) (at_high c.args.subproblem.now c.args.cut.now j))) all

pub returns-clause-small : goal.returns-clause-small
returns-clause-small c = omega (arith, as_many c.args.subproblem.now c.args.boxes.now c.requires.boxes, c.requires.few, c.loop-k.invariant.small, c.loop-k.auto.k-end)
