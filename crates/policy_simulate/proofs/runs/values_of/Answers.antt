use Rattle.std.proofs.Common.{◌∙◌, ◌<◌, ℤ, List, length, get_or, sym, ap, subst}
use Rattle.plan_forward.proofs.Arcs.{realization_there, values_read}
use Rattle.policy_simulate.proofs.runs.values_of.Goals as goal

pub bounds-as_slice-step : goal.bounds-as_slice-step
bounds-as_slice-step c = subst (λ (vs : List (List ℤ)). c.args.step.realization < length vs) (sym c.as_slice.ensures) (realization_there c.args.problem.now c.args.step c.node-node.result.now c.parts.ensures.validated c.requires c.node-node.ensures)

pub returns : goal.returns
returns c =
    let p = c.args.problem.now in
    let there = realization_there p c.args.step c.node-node.result.now c.parts.ensures.validated c.requires c.node-node.ensures in
    c.as_slice-2.ensures ∙ values_read p c.args.step c.node-node.result.now c.index-as_slice-step.result c.node-node.ensures there (c.index-as_slice-step.is ∙ ap (λ (vs : List (List ℤ)). get_or vs c.args.step.realization c.index-as_slice-step.result) c.as_slice.ensures)
