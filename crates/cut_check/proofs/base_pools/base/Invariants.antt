use Rattle.std.proofs.Common.{drop}
use Rattle.cut_check.proofs.Standing.{Standing}
use Rattle.cut_check.proofs.base_pools.base.Given as goal

abbrev pub invariant-loop-node : goal.invariant-loop-node
invariant-loop-node l = Standing l.problem (drop l.node-index l.order) l.pools.lists
