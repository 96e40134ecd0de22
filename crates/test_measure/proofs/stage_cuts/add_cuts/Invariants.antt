use Rattle.cut_pool.specs.AtNodes.{PoolsFit}
use Rattle.test_measure.proofs.stage_cuts.add_cuts.Given as goal

abbrev pub invariant-loop-turn : goal.invariant-loop-turn
invariant-loop-turn l = PoolsFit l.problem l.pools.lists
