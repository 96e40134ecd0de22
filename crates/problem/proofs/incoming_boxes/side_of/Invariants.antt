use Rattle.std.proofs.Common.{◌≡◌, map, unwrap_or}
use Rattle.base_num.specs.Sums.{entry}
use Rattle.base_graph.specs.Paths.{numbers}
use Rattle.problem.specs.Hull.{given, hull}
use Rattle.problem.proofs.incoming_boxes.side_of.Given as goal

abbrev pub invariant-loop-state : goal.invariant-loop-state
invariant-loop-state l = l.found ≡ map (λ s. unwrap_or (given l.side l.parts l.node s) (entry (hull l.side l.parts l.node) s)) (numbers l.state)
