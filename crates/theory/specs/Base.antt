-- The base cuts: one per node, from multipliers that need no solver.
use Rattle.std.specs.Prelude.{ℕ, ◌*◌, pos, List, [], ◌∷◌, map, replicate}
use Rattle.problem.specs.declared.parts.Row.{Row}
use Rattle.theory.specs.declared.cut.Cut.{Cut}
use Rattle.theory.specs.declared.cut.Certificate.{Certificate}
use Rattle.theory.specs.Problem.{S, Realization, Successor, Node, Problem, node_at}
use Rattle.theory.specs.Pools.{push}
use Rattle.theory.specs.CutOf.{cut_of}

-- all rows 0, and for each successor its first cut with all of its weight
abbrev pub base_certificate : Node → Certificate
base_certificate n = record { rows = map (λ (row : Row). pos 0) n.rows; cuts = map (λ (l : Successor). (0, S * l.weight) ∷ []) n.successors }

abbrev pub base_list : Node → List Certificate
base_list n = map (λ (r : Realization). base_certificate n) n.realizations

-- a cut for each node of the order, over those made before
abbrev pub base_pools : Problem → List ℕ → List (List Cut) → List (List Cut)
base_pools p [] pools = pools
base_pools p (m ∷ ms) pools = base_pools p ms (push pools m (cut_of pools (node_at p m) (base_list (node_at p m))))

-- Base: the base cuts of count nodes in an order with each node after its successors
abbrev pub base : Problem → ℕ → List ℕ → List (List Cut)
base p count order = base_pools p order (replicate count [])
