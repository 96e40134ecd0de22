-- The parts of a node.
use Rattle.std.specs.Prelude.{ℕ, List, [], map, Option, get_or, slice_get, option_and_then}
use Rattle.base_graph.specs.Paths.{arcs_from}
use Rattle.problem.specs.declared.parts.Node.{Node}
use Rattle.problem.specs.declared.parts.Subproblem.{Subproblem}
use Rattle.problem.specs.declared.parts.ProblemParts.{ProblemParts}

-- the successors of each node
abbrev pub graph_of : ProblemParts → List (List ℕ)
graph_of parts = map (λ (n : Node). n.successors) parts.nodes

-- the successors of the node m, none where it is absent
abbrev pub successors_at : ProblemParts → ℕ → List ℕ
successors_at parts m = arcs_from (graph_of parts) m

-- the weights of its realizations
abbrev pub weights_at : ProblemParts → ℕ → List ℕ
weights_at parts m = get_or (map (λ (n : Node). n.weights) parts.nodes) m []

-- the subproblem of a node
abbrev pub own_subproblem : ProblemParts → Node → Option Subproblem
own_subproblem parts n = slice_get parts.subs n.sub

-- the subproblem of the node m
abbrev pub subproblem_at : ProblemParts → ℕ → Option Subproblem
subproblem_at parts m = option_and_then (own_subproblem parts) (slice_get parts.nodes m)
