use Rattle.std.proofs.Common.{◌*◌}
use Rattle.cut_pool.specs.AtNodes.{PoolsFit}
use Rattle.plan_train.specs.Growing.{ExtendsPools}
use Rattle.run_worker.proofs.ahead.answer_all.Given as goal

abbrev pub invariant-loop-done : goal.invariant-loop-done
invariant-loop-done g l = record {
  extends : ExtendsPools (l.done * l.stretch.batch) l.initial.pools.lists l.pools.lists;
  fit : PoolsFit l.planner.problem.now l.pools.lists;
}
