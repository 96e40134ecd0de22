use Rattle.std.proofs.Common.{◌≡◌, Ok, take}
use Rattle.plan_forward.specs.Walking.{each_of, trajectory_of}
use Rattle.plan_forward.proofs.passes.passes_in_order.Given as goal

abbrev pub invariant-loop-path : goal.invariant-loop-path
invariant-loop-path g l = each_of (trajectory_of (g.V.Solver.does l.planner.solver.now) l.planner.problem.now l.pools.lists l.fn.run) (take l.path-index l.paths) ≡ Ok l.found
