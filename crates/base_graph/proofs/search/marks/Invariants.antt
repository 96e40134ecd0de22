use Rattle.std.proofs.Common.{◌≡◌, ◌-◌, length}
use Rattle.base_graph.proofs.Searches.{Searched}
use Rattle.base_graph.proofs.search.marks.Given as goal

abbrev pub invariant-loop-at : goal.invariant-loop-at
invariant-loop-at l = (l.search.count ≡ length l.graph) × Searched l.graph l.starts l.search.found l.at

abbrev pub decreases-loop-at : goal.decreases-loop-at
decreases-loop-at l = length l.graph - l.at
