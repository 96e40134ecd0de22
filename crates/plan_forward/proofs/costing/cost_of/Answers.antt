use Rattle.std.proofs.Common.{◌∙◌, ℤ, List, ◌+ℤ◌, ◌*ℤ◌, pos, map, SFits, w64, rules, ap, ap₂}
use mir.Syntax.{w128}
use Rattle.std.proofs.lemmas.Int.{to_z-of_z}
use Rattle.base_num.specs.Sums.{dot}
use Rattle.problem.specs.declared.parts.Decision.{Decision}
use Rattle.theory.specs.Problem.{S}
use Rattle.theory.specs.Tree.{times_all}
use Rattle.theory.specs.View.{node_of}
use Rattle.plan_forward.specs.Costing.{stage_cost_of}
use Rattle.plan_forward.proofs.Products.{dot-times_all}
use Rattle.plan_forward.proofs.costing.cost_of.Goals as goal

pub returns : goal.returns
unfolding node_of stage_cost_of
returns c = λ n low high.
    let s = c.args.subproblem.now in
    let u : List ℤ = c.args.decisions.now in
    let x : List ℤ = c.args.state.now in
    let values : List ℤ = c.args.values.now in
    let fits : SFits w64 c.args.subproblem.now.constant = search rules in
    let constant = to_z-of_z w128 c.scaled.result (record { sfits = c.scaled.type_inv }) ∙ c.scaled.ensures.value ∙ ap (λ (z : ℤ). pos S *ℤ z) (to_z-of_z w64 c.args.subproblem.now.constant fits) in
    let of_values = to_z-of_z w128 c.products_sum-of_values.result (record { sfits = c.products_sum-of_values.type_inv }) ∙ c.products_sum-of_values.ensures.value ∙ ap (λ (cs : List ℤ). dot cs (times_all S values)) c.as_slice.ensures ∙ dot-times_all s.random_costs values in
    let of_decisions = to_z-of_z w128 c.products_sum-of_decisions.result (record { sfits = c.products_sum-of_decisions.type_inv }) ∙ c.products_sum-of_decisions.ensures.value ∙ ap (λ (ds : List Decision). dot (map (λ (d : Decision). d.cost) ds) u) c.as_slice-2.ensures in
    let of_state = to_z-of_z w128 c.products_sum-of_state.result (record { sfits = c.products_sum-of_state.type_inv }) ∙ c.products_sum-of_state.ensures.value ∙ ap (λ (cs : List ℤ). dot cs x) c.as_slice-3.ensures in
    let three = to_z-of_z w128 c.sum_of_three.result (record { sfits = c.sum_of_three.type_inv }) ∙ c.sum_of_three.ensures.value ∙ ap₂ (λ (y z : ℤ). y +ℤ z) (ap₂ (λ (y z : ℤ). y +ℤ z) constant of_values) of_decisions in
    to_z-of_z w128 c.sum_of_two.result (record { sfits = c.sum_of_two.type_inv }) ∙ c.sum_of_two.ensures ∙ ap₂ (λ (y z : ℤ). y +ℤ z) three of_state
