use Rattle.std.proofs.Common.{◌≡◌, length, drop}
use Rattle.base_graph.specs.Paths.{numbers}
use Rattle.problem.specs.Hull.{first_gap}
use Rattle.problem.proofs.incoming_boxes.first_gap.Given as goal

abbrev pub invariant-loop-node : goal.invariant-loop-node
invariant-loop-node l = first_gap l.parts (drop l.node (numbers (length l.parts.nodes))) ≡ first_gap l.parts (numbers (length l.parts.nodes))
