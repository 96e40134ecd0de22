use Rattle.std.proofs.Common.{◌≡◌, map}
use Rattle.base_graph.specs.Paths.{numbers}
use Rattle.problem.specs.Hull.{outermost, incoming}
use Rattle.problem.proofs.hull.hull_of.Given as goal

abbrev pub invariant-loop-state : goal.invariant-loop-state
invariant-loop-state l = l.found ≡ map (λ s. outermost l.side (incoming l.side l.parts l.node s)) (numbers l.state)
