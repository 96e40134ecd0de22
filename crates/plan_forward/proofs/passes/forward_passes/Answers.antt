use Rattle.std.proofs.Common.{◌≡◌, true, subst}
use Rattle.problem.specs.Validated.{Validated, is_validated}
use Rattle.plan_forward.proofs.Walks.{given_infeasible, given_walks}
use Rattle.plan_forward.proofs.passes.forward_passes.Goals as goal

pub returns-then-paths-lt2-clause-walks : goal.returns-then-paths-lt2-clause-walks
returns-then-paths-lt2-clause-walks g c =
    let v = g.V.Solver.does c.args.planner.now.solver.now in
    let validated = subst (λ (q : Validated). is_validated q ≡ true) c.problem.ensures c.parts.ensures.validated in
    given_walks v c.args.planner.now.problem.now c.args.pools.now.lists c.args.run validated c.args.paths.now c.passes_in_order.result c.requires.paths c.passes_in_order.ensures

pub returns-then-paths-lt2-clause-infeasible : goal.returns-then-paths-lt2-clause-infeasible
returns-then-paths-lt2-clause-infeasible g c =
    let v = g.V.Solver.does c.args.planner.now.solver.now in
    let validated = subst (λ (q : Validated). is_validated q ≡ true) c.problem.ensures c.parts.ensures.validated in
    given_infeasible v c.args.planner.now.problem.now c.args.pools.now.lists c.args.run validated c.args.paths.now c.passes_in_order.result c.requires.paths c.passes_in_order.ensures

pub returns-clause-walks : goal.returns-clause-walks
returns-clause-walks g c =
    let v = g.V.Solver.does c.args.planner.now.solver.now in
    let validated = subst (λ (q : Validated). is_validated q ≡ true) c.problem.ensures c.parts.ensures.validated in
    given_walks v c.args.planner.now.problem.now c.args.pools.now.lists c.args.run validated c.args.paths.now c.passes_beside.result c.requires.paths c.passes_beside.ensures

pub returns-clause-infeasible : goal.returns-clause-infeasible
returns-clause-infeasible g c =
    let v = g.V.Solver.does c.args.planner.now.solver.now in
    let validated = subst (λ (q : Validated). is_validated q ≡ true) c.problem.ensures c.parts.ensures.validated in
    given_infeasible v c.args.planner.now.problem.now c.args.pools.now.lists c.args.run validated c.args.paths.now c.passes_beside.result c.requires.paths c.passes_beside.ensures
