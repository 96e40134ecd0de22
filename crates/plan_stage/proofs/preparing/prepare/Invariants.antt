use Rattle.std.proofs.Common.{◌≡◌}
use Rattle.plan_stage.proofs.preparing.prepare.Given as goal

abbrev pub invariant-loop-node : goal.invariant-loop-node
invariant-loop-node l = l.pools ≡ l.initial.pools
