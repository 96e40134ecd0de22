use Rattle.std.proofs.Common.{◌≡◌}
use Rattle.run_worker.proofs.ahead.mark_all.Given as goal

abbrev pub invariant-loop-node : goal.invariant-loop-node
invariant-loop-node l = l.pools ≡ l.initial.pools
