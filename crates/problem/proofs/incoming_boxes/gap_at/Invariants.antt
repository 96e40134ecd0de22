use Rattle.std.proofs.Common.{◌≡◌, length, drop}
use Rattle.std.specs.List.{find}
use Rattle.base_graph.specs.Paths.{numbers}
use Rattle.problem.specs.Hull.{has_gap}
use Rattle.problem.proofs.incoming_boxes.gap_at.Given as goal

abbrev pub invariant-loop-state : goal.invariant-loop-state
invariant-loop-state l = find (has_gap l.parts l.node) (drop l.state (numbers (length l.parts.states))) ≡ find (has_gap l.parts l.node) (numbers (length l.parts.states))
