use Rattle.std.proofs.Common.{◌≡◌, map}
use Rattle.base_graph.specs.Paths.{numbers}
use Rattle.problem.specs.Hull.{hull}
use Rattle.problem.proofs.hull.hulls.Given as goal

abbrev pub invariant-loop-node : goal.invariant-loop-node
invariant-loop-node l = l.found ≡ map (hull l.side l.parts) (numbers l.node)
