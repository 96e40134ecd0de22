use Rattle.std.proofs.Common.{◌+◌, ◌*◌, take}
use Rattle.base_graph.specs.DepthFirst.{unseen, GoesOn, RankAbove}
use Rattle.base_graph.proofs.depth_first.+search.Given as goal

abbrev pub decreases-visit : goal.decreases-visit
decreases-visit l = 2 * unseen l.marks.now

abbrev pub decreases-rank_above : goal.decreases-rank_above
decreases-rank_above l = 2 * unseen l.marks.now + 1

abbrev pub invariant-rank_above-loop-node : goal.invariant-rank_above-loop-node
invariant-rank_above-loop-node l = record {
  went : GoesOn l.graph l.initial.marks l.marks;
  found : RankAbove l.marks (take l.node-index l.nodes) l.most;
}
