use Rattle.std.proofs.Common.{◌≡◌, [], map, replicate}
use Rattle.cut_pool.specs.Pooled.{PooledCuts}
use Rattle.cut_pool.proofs.pools.Pools.new.Given as goal

abbrev pub invariant-loop : goal.invariant-loop
invariant-loop l = map (λ (v : PooledCuts). v.cuts) l.lists.items ≡ replicate l.counter []
