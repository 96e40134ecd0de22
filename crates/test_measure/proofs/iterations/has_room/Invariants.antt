use Rattle.std.proofs.Common.{ℕ, ◌<◌, ◌≤◌, ◌^◌, length}
use Rattle.theory.specs.Pools.{pool}
use Rattle.test_measure.proofs.iterations.has_room.Given as goal

abbrev pub invariant-loop-node : goal.invariant-loop-node
invariant-loop-node l = (m : ℕ) → m < l.node → length (pool l.pools.lists m) ≤ 2 ^ 23
