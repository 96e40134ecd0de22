-- Tables with a number of each node's trees, as their branches, which stops at a cap.
use Rattle.std.specs.Prelude.{◌≡◌, ℕ, ◌<◌, List, length, get_or, min}
use Rattle.base_graph.specs.Ranks.{rank}
use Rattle.problem.specs.Validated.{Validated, graph_of}

-- v is that of the node m, for trees of any number of stages that cuts off no path from there
abbrev pub StandsForNode : Validated → (ℕ → ℕ → ℕ) → ℕ → ℕ → ℕ → Type 0
StandsForNode p f cap m v = (n : ℕ) → rank (graph_of p.parts) m < n → v ≡ min (f n m) cap

pub record IsNodeTable (p : Validated) (f : ℕ → ℕ → ℕ) (cap : ℕ) (table : List ℕ) : Type 0 where
  pub count : length table ≡ length p.parts.nodes
  pub each : (m : ℕ) → m < length p.parts.nodes → StandsForNode p f cap m (get_or table m 0)
