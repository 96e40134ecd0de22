use Rattle.policy_robust.proofs.Placed.{BaseLeft}
use Rattle.policy_robust.proofs.risk_cuts.base_risk_cuts.Given as goal

abbrev pub invariant-loop-node : goal.invariant-loop-node
invariant-loop-node l = BaseLeft l.problem l.alternatives l.order l.node-index l.risk_cuts.lists
