use Rattle.plan_backward.proofs.Certificates.{counted_in_order}
use Rattle.plan_backward.proofs.in_chains.certified_in_order.Goals as goal

pub returns-clause-count : goal.returns-clause-count
returns-clause-count g c =
    let here = c.args.here.now in
    counted_in_order (g.V.Solver.does here.planner.now.solver.now) here.planner.now.problem.now here.pools.now.lists here.iteration here.node here.state.now c.in_chains-found.result c.in_chains-found.ensures.value
