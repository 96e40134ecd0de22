use Rattle.std.proofs.Common.{◌≡◌, map, take}
use Rattle.base_graph.specs.DepthFirst.{rank_of}
use Rattle.base_graph.proofs.depth_first.ranks_of.Given as goal

abbrev pub invariant-loop-mark : goal.invariant-loop-mark
invariant-loop-mark l = l.ranks ≡ map rank_of (take l.mark-index l.marks)
