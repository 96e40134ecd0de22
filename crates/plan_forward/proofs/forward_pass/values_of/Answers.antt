use Rattle.std.proofs.Common.{◌≡◌, ◌∙◌, ◌<◌, true, ℤ, List, length, get_or, sym, ap, subst}
use Rattle.problem.specs.Limits.{are_values}
use Rattle.problem.specs.Validated.{subproblem_of}
use Rattle.plan_forward.proofs.Arcs.{realization_there, values_read, values-validated}
use Rattle.plan_forward.proofs.forward_pass.values_of.Goals as goal

pub bounds-as_slice-step : goal.bounds-as_slice-step
bounds-as_slice-step c = subst (λ (vs : List (List ℤ)). c.args.step.realization < length vs) (sym c.as_slice.ensures) (realization_there c.args.problem.now c.args.step c.node-node.result.now c.parts.ensures.validated c.requires c.node-node.ensures)

pub returns-clause-value : goal.returns-clause-value
returns-clause-value c =
    let p = c.args.problem.now in
    let there = realization_there p c.args.step c.node-node.result.now c.parts.ensures.validated c.requires c.node-node.ensures in
    c.as_slice-2.ensures ∙ values_read p c.args.step c.node-node.result.now c.index-as_slice-step.result c.node-node.ensures there (c.index-as_slice-step.is ∙ ap (λ (vs : List (List ℤ)). get_or vs c.args.step.realization c.index-as_slice-step.result) c.as_slice.ensures)

pub returns-clause-fit : goal.returns-clause-fit
returns-clause-fit c =
    let p = c.args.problem.now in
    subst (λ (vs : List ℤ). are_values (subproblem_of p c.args.step.node) vs ≡ true) (sym (returns-clause-value c)) (values-validated p c.args.step c.parts.ensures.validated c.requires)
