use Rattle.std.proofs.Common.{◌≡◌, take}
use Rattle.base_graph.specs.Search.{come_all}
use Rattle.base_graph.proofs.search.Search.come_all.Given as goal

abbrev pub invariant-loop-node : goal.invariant-loop-node
invariant-loop-node l = (l.self.count ≡ l.initial.self.count) × (l.self.found ≡ come_all l.initial.self.found (take l.node-index l.nodes))
