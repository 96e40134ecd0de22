use Rattle.std.proofs.Common.{get_or, map}
use Rattle.policy_evaluate.proofs.Stopping.{Goes}
use Rattle.policy_evaluate.proofs.table_sums.multiple_at.Given as goal

abbrev pub invariant-loop-node : goal.invariant-loop-node
invariant-loop-node l = Goes (map (λ m. get_or l.table m 0) l.nodes) l.cap l.node-index l.multiple
