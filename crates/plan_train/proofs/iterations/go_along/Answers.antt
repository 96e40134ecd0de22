use Rattle.std.proofs.Common.{List}
use Rattle.std.proofs.lemmas.Result.{err_from_is_err_and}
use Rattle.plan_draw.specs.declared.steps.Trajectory.{Trajectory}
use Rattle.plan_forward.specs.Walking.{walks_of}
use Rattle.plan_train.specs.Stepping.{along, with_walks}
use Rattle.plan_train.proofs.Forwards.{forward_infeasible, forward_stops}
use Rattle.plan_train.proofs.iterations.go_along.Goals as goal

pub returns-in_err-trajectories-clause-value : goal.returns-in_err-trajectories-clause-value
unfolding along
returns-in_err-trajectories-clause-value g c =
    let p = c.args.planner.now.problem.now in
    let v = g.V.Solver.does c.args.planner.now.solver.now in
    let pools = c.args.pools.now.lists in
    let k = c.args.iteration in
    let paths = c.args.paths.now in
    let e = err_from_is_err_and c.from_residual.result c.from_residual.ensures.1 in
    rw (e.1, e.2) (forward_stops c.in_err-trajectories.field-0.0 (walks_of v p pools k paths) (with_walks v p pools k paths) c.in_err-trajectories.ensures.value)

pub returns-in_err-trajectories-clause-infeasible : goal.returns-in_err-trajectories-clause-infeasible
returns-in_err-trajectories-clause-infeasible g c =
    let e = err_from_is_err_and c.from_residual.result c.from_residual.ensures.1 in
    rw (e.1, e.2) (forward_infeasible (List Trajectory) c.args.planner.now.problem.now c.in_err-trajectories.field-0.0 c.in_err-trajectories.ensures.infeasible)
