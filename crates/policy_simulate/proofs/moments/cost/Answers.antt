use Rattle.std.proofs.Common.{◌≤◌, ◌^◌, ◌∙◌, ℤ, nat_abs, sym, subst}
use mir.Syntax.{w128}
use Rattle.std.proofs.lemmas.Int.{to_z-of_z}
use Rattle.policy_simulate.proofs.Amounts.{stage_cost_small}
use Rattle.policy_simulate.proofs.moments.cost.Goals as goal

pub returns-clause-small : goal.returns-clause-small
returns-clause-small c =
    let same = to_z-of_z w128 c.stage_cost.result (record { sfits = c.stage_cost.type_inv }) ∙ c.stage_cost.ensures in
    subst (λ (z : ℤ). nat_abs z ≤ 2 ^ 115) (sym same)
    (stage_cost_small c.args.problem.now c.parts.ensures.validated c.args.node c.requires.known c.sub.result.now c.sub.ensures c.args.decisions.now c.args.state.now c.args.values.now c.requires.decisions c.requires.state c.requires.values)
