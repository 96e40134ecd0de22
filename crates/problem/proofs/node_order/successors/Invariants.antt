use Rattle.std.proofs.Common.{◌≡◌, map, take}
use Rattle.problem.specs.declared.parts.Node.{Node}
use Rattle.problem.proofs.node_order.successors.Given as goal

abbrev pub invariant-loop-node : goal.invariant-loop-node
invariant-loop-node l = l.found ≡ map (λ (n : Node). n.successors) (take l.node-index l.nodes)
