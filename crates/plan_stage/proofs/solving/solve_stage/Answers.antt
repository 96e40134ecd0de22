use Rattle.std.proofs.Common.{◌≡◌, Some, IfOk, subst}
use Rattle.problem.specs.Validated.{Validated}
use Rattle.plan_stage.specs.Nodes.{stage_in}
use Rattle.plan_stage.proofs.Alike.{if_ok}
use Rattle.plan_stage.proofs.Answering.{answered-by}
use Rattle.plan_stage.proofs.solving.solve_stage.Goals as goal

pub returns : goal.returns
returns g c =
    let lp = c.in_ok-lp.lp in
    let chain = c.in_ok-chain.chain in
    let stage = subst (λ (p : Validated). stage_in p c.args.pools.now.lists c.args.node c.args.values.now c.args.state.now ≡ Some lp) c.problem.ensures c.in_ok-lp.ensures.value in
    let answer = subst (λ solver. IfOk c.solve-answer.result (λ a. a ≡ ((g.V.Solver.does solver).next chain lp).0)) c.solver.ensures c.solve-answer.ensures.answer in
    if_ok c.solve-answer.result _ _
    (λ a is. answered-by (g.V.Solver.does c.args.planner.now.solver.now)
    c.args.planner.now.problem.now c.args.pools.now.lists c.args.node c.args.values.now c.args.state.now lp chain a
    stage c.in_ok-chain.ensures.made is)
    answer
