-- Properties of the weights that are listed for the realizations of the nodes.
use Rattle.std.specs.Prelude.{◌≡◌, ℕ, ◌<◌, List, [], length, map, get_or, All}
use Rattle.problem.specs.Validated.{Validated}
use Rattle.theory.specs.Problem.{Realization, Node, node_at}
use Rattle.theory.specs.View.{problem_of}
use Rattle.cut_make.specs.Reweighting.{Weighs}

-- the lists of the node m
abbrev pub lists_at : List (List (List ℕ)) → ℕ → List (List ℕ)
lists_at x m = get_or x m []

-- the node's own weights
abbrev pub own_weights : Node → List ℕ
own_weights n = map (λ (r : Realization). r.weight) n.realizations

-- for each node its lists, its own weights first
pub record Listed (p : Validated) (x : List (List (List ℕ))) : Type 0 where
  pub nodes : length x ≡ length p.parts.nodes
  pub some : (m : ℕ) → m < length p.parts.nodes → 0 < length (lists_at x m)
  pub own : (m : ℕ) → m < length p.parts.nodes → get_or (lists_at x m) 0 [] ≡ own_weights (node_at (problem_of p) m)
  pub each : (m : ℕ) → m < length p.parts.nodes → All (Weighs (node_at (problem_of p) m)) (lists_at x m)
