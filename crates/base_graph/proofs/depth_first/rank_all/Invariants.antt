use Rattle.std.proofs.Common.{◌≡◌, ℕ, ◌<◌, true}
use Rattle.base_graph.specs.DepthFirst.{mark_at, is_ranked, GoesOn}
use Rattle.base_graph.proofs.depth_first.rank_all.Given as goal

abbrev pub invariant-loop-node : goal.invariant-loop-node
invariant-loop-node l = record {
  went : GoesOn l.graph l.initial.marks l.marks;
  each : (m : ℕ) → m < l.node → is_ranked (mark_at l.marks m) ≡ true;
}
