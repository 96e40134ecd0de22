use Rattle.std.proofs.Common.{◌≡◌, length}
use Rattle.base_graph.specs.Paths.{in_cycle, first_in_cycle}
use Rattle.base_graph.proofs.Least.{least_from}
use Rattle.base_graph.proofs.reach.least_in_cycle.Given as goal

abbrev pub invariant-loop-node : goal.invariant-loop-node
invariant-loop-node l = least_from (in_cycle l.graph) l.node (length l.graph) ≡ first_in_cycle l.graph
