use Rattle.std.proofs.Common.{◌≡◌, map, take}
use Rattle.problem.specs.declared.parts.Node as nodes
use Rattle.plan_stage.specs.Orders.{solving_order}
use Rattle.plan_stage.proofs.orders.solving_orders.Given as goal

abbrev pub invariant-loop-node : goal.invariant-loop-node
invariant-loop-node l = l.orders ≡ map (λ (n : nodes.Node). solving_order n.values) (take l.node-index l.nodes)
