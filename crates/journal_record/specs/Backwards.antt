-- Paths from the root, and the steps of an entry read backwards.
use Rattle.std.specs.Prelude.{ℕ, List, [], ◌∷◌, ◌++◌, Contains}
use Rattle.base_graph.specs.Paths.{arcs_from}
use Rattle.problem.specs.Validated.{Validated, graph_of}
use Rattle.cut_pool.specs.declared.entry.EntryStep.{EntryStep}

-- from the node m on, each node is a successor of the one before it
abbrev pub IsSuccessorChain : Validated → ℕ → List ℕ → Type 0
IsSuccessorChain p m [] = Unit {0}
IsSuccessorChain p m (k ∷ ks) = Contains (arcs_from (graph_of p.parts) m) k × IsSuccessorChain p k ks

-- at least one node, of which the first is a successor of the root
abbrev pub IsPathFromRoot : Validated → List ℕ → Type 0
IsPathFromRoot p [] = ⊥
IsPathFromRoot p (m ∷ ms) = Contains p.parts.root m × IsSuccessorChain p m ms

-- the nodes of the steps, read backwards
abbrev pub nodes_back : List EntryStep → List ℕ
nodes_back [] = []
nodes_back (s ∷ ss) = nodes_back ss ++ s.node ∷ []
