use Rattle.std.proofs.Common.{◌≡◌, ℕ, ◌<◌, ◌≤◌, length, take, get_or}
use Rattle.theory.specs.Pools.{pool}
use Rattle.plan_train.proofs.pool_counts.cut_back.Given as goal

abbrev pub invariant-loop-node : goal.invariant-loop-node
invariant-loop-node l = record {
  count : length l.pools.lists ≡ length l.initial.pools.lists;
  cut : (m : ℕ) → m < l.node → pool l.pools.lists m ≡ take (get_or l.counts m 0) (pool l.initial.pools.lists m);
  left : (m : ℕ) → l.node ≤ m → pool l.pools.lists m ≡ pool l.initial.pools.lists m;
}
