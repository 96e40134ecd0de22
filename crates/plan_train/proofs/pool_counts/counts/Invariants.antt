use Rattle.std.proofs.Common.{◌≡◌, List, length, map, take}
use Rattle.theory.specs.declared.cut.Cut.{Cut}
use Rattle.plan_train.proofs.pool_counts.counts.Given as goal

abbrev pub invariant-loop-node : goal.invariant-loop-node
invariant-loop-node l = l.found ≡ map (λ (cuts : List Cut). length cuts) (take l.node l.pools.lists)
