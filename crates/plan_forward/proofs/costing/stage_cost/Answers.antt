use Rattle.std.proofs.Common.{◌∙◌, sym, ap}
use mir.Syntax.{w128}
use Rattle.std.proofs.lemmas.Int.{to_z-of_z}
use Rattle.theory.specs.Problem.{Node}
use Rattle.plan_forward.specs.Costing.{stage_cost_of}
use Rattle.plan_forward.proofs.ByAnswers.{viewed}
use Rattle.plan_forward.proofs.GivenNumbers.{costs_over, numbers_given}
use Rattle.plan_forward.proofs.costing.stage_cost.Goals as goal

pub cost_of-requires-clause-given : goal.cost_of-requires-clause-given
cost_of-requires-clause-given c = numbers_given c.args.problem.now c.parts.ensures.validated c.args.node c.requires.known c.sub.result.now c.sub.ensures c.args.decisions.now c.args.state.now c.args.values.now c.requires.decisions c.requires.state c.requires.values

pub cost_of-requires-clause-costs : goal.cost_of-requires-clause-costs
cost_of-requires-clause-costs c = costs_over c.args.problem.now c.parts.ensures.validated c.args.node c.requires.known c.sub.result.now c.sub.ensures c.args.decisions.now c.args.state.now c.args.values.now c.requires.decisions c.requires.state c.requires.values

pub returns : goal.returns
returns c =
    let view = viewed c.args.problem.now c.args.node c.sub.result.now c.requires.known c.sub.ensures in
    to_z-of_z w128 c.cost_of.result (record { sfits = c.cost_of.type_inv }) ∙ c.cost_of.ensures view.node view.low view.high
    ∙ ap (λ (n : Node). stage_cost_of n c.args.decisions.now c.args.state.now c.args.values.now) (sym view.is)
