use Rattle.cut_pool.specs.AtNodes.{PoolsFit}
use Rattle.test_measure.proofs.iterations.steps.Given as goal

abbrev pub invariant-loop-done : goal.invariant-loop-done
invariant-loop-done g l = PoolsFit l.planner.problem.now l.pools.lists
