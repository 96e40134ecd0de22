use Rattle.std.proofs.Common.{◌∙◌, ℤ, ◌+ℤ◌, ap, ap₂}
use mir.Syntax.{w128}
use Rattle.std.proofs.lemmas.Int.{to_z-of_z}
use Rattle.base_num.specs.Sums.{at_terms, entry}
use Rattle.theory.specs.Problem.{S}
use Rattle.theory.specs.Tree.{times_all}
use Rattle.plan_forward.proofs.Products.{at_terms-times_all}
use Rattle.plan_forward.proofs.costing.left_side.Goals as goal

pub returns-clause-value : goal.returns-clause-value
returns-clause-value c =
    let row = c.args.row.now in
    let of_decisions = to_z-of_z w128 c.terms_sum-of_decisions.result (record { sfits = c.terms_sum-of_decisions.type_inv }) ∙ c.terms_sum-of_decisions.ensures.value ∙ ap (λ ts. at_terms ts (entry c.args.decisions.now)) c.as_slice.ensures in
    let of_state = to_z-of_z w128 c.terms_sum-of_state.result (record { sfits = c.terms_sum-of_state.type_inv }) ∙ c.terms_sum-of_state.ensures.value ∙ ap (λ ts. at_terms ts (entry c.args.state.now)) c.as_slice-2.ensures in
    let of_values = to_z-of_z w128 c.terms_sum-of_values.result (record { sfits = c.terms_sum-of_values.type_inv }) ∙ c.terms_sum-of_values.ensures.value ∙ ap (λ ts. at_terms ts (entry (times_all S c.args.values.now))) c.as_slice-3.ensures ∙ at_terms-times_all row.randoms c.args.values.now in
    to_z-of_z w128 c.sum_of_three.result (record { sfits = c.sum_of_three.type_inv }) ∙ c.sum_of_three.ensures.value ∙ ap₂ (λ (y z : ℤ). y +ℤ z) (ap₂ (λ (y z : ℤ). y +ℤ z) of_decisions of_state) of_values
