use Rattle.std.proofs.Common.{◌≡◌, get_or, map, min, sum, take}
use Rattle.policy_evaluate.proofs.table_sums.sum_at.Given as goal

abbrev pub invariant-loop-node : goal.invariant-loop-node
invariant-loop-node l = l.total ≡ min (sum (map (λ m. get_or l.table m 0) (take l.node-index l.nodes))) l.cap
