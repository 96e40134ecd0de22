use Rattle.std.proofs.Common.{◌≡◌, not, length}
use Rattle.base_graph.specs.Paths.{reached, first_unreached}
use Rattle.base_graph.proofs.Least.{least_from}
use Rattle.base_graph.proofs.reach.first_unreached.Given as goal

abbrev pub invariant-loop-node : goal.invariant-loop-node
invariant-loop-node l = least_from (λ m. not (reached l.graph l.starts m)) l.node (length l.graph) ≡ first_unreached l.graph l.starts
