use Rattle.std.proofs.Common.{◌≡◌, map}
use Rattle.base_graph.specs.Paths.{numbers}
use Rattle.problem.specs.Hull.{box_side}
use Rattle.problem.proofs.incoming_boxes.sides.Given as goal

abbrev pub invariant-loop-node : goal.invariant-loop-node
invariant-loop-node l = l.found ≡ map (box_side l.side l.parts) (numbers l.node)
