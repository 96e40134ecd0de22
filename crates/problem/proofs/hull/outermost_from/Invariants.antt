use Rattle.std.proofs.Common.{◌≡◌, map, drop}
use Rattle.std.specs.List.{fold}
use Rattle.problem.specs.Hull.{outer, end_at}
use Rattle.problem.proofs.hull.outermost_from.Given as goal

abbrev pub invariant-loop-node : goal.invariant-loop-node
invariant-loop-node l = fold (outer l.side) l.found (map (end_at l.nodes l.ends l.state) (drop l.node-index l.into)) ≡ fold (outer l.side) l.first (map (end_at l.nodes l.ends l.state) l.into)
