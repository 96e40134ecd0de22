-- The formulas that bound a whole policy: its branches, the number over which its costs stand, and the costs of its stages.
use Rattle.std.specs.Prelude.{ℕ, zero, suc, ◌+◌, ◌*◌, ◌^◌, ℤ, List, [], ◌∷◌, length, map, min, max, nat_abs, sum, Option}
use Rattle.base_graph.specs.Paths.{numbers}
use Rattle.base_graph.specs.Ranks.{greatest}
use Rattle.problem.specs.declared.formulas.TooMuch.{TooMuch}
use Rattle.problem.specs.Formulas.{above, or_then}
use Rattle.problem.specs.Validated.{Validated}
use Rattle.theory.specs.Problem.{Realization, Successor, Node, Problem, node_at, successor_weights, realization_weight, successor_weight}
use Rattle.theory.specs.View.{problem_of}
use Rattle.policy_evaluate.specs.Multiples.{lcm_all}

-- Branches: those of a tree of the node m, of at most n stages; no path of the graph has more than `longest`
abbrev pub branches : Problem → ℕ → ℕ → ℕ
branches p zero m = 0
branches p (suc n) m = length (node_at p m).realizations * (1 + sum (map (λ (l : Successor). branches p n l.node) (node_at p m).successors))

-- formula 5: the branches of the whole policy
unfoldable pub branch_count : Validated → ℕ
branch_count p = sum (map (λ (l : Successor). branches (problem_of p) p.longest l.node) (problem_of p).root)

-- Den: the number over which the cost of a tree of the node m stands, of at most n stages
abbrev pub denominator : Problem → ℕ → ℕ → ℕ
denominator p zero m = 1
denominator p (suc n) m = realization_weight (node_at p m) * (successor_weight (node_at p m) * lcm_all 1 (map (λ (l : Successor). denominator p n l.node) (node_at p m).successors))

-- formula 6: the number over which the cost of the whole policy stands
unfoldable pub root_denominator : Validated → ℕ
root_denominator p = sum (successor_weights (problem_of p).root) * lcm_all 1 (map (λ (l : Successor). denominator (problem_of p) p.longest l.node) (problem_of p).root)

-- the sum of |factor| * |number|, as far as both lists go
abbrev pub sizes : List ℤ → List ℤ → ℕ
sizes [] zs = 0
sizes (c ∷ cs) [] = 0
sizes (c ∷ cs) (z ∷ zs) = nat_abs c * nat_abs z + sizes cs zs

-- the greatest absolute value in a box, and at least 1
abbrev pub box_reach : ℤ → ℤ → ℕ
box_reach low high = max 1 (max (nat_abs low) (nat_abs high))

-- the sum of |factor| * reach over a box, as far as the lists go
abbrev pub reaches : List ℤ → List ℤ → List ℤ → ℕ
reaches [] ls hs = 0
reaches (c ∷ cs) [] hs = 0
reaches (c ∷ cs) (l ∷ ls) [] = 0
reaches (c ∷ cs) (l ∷ ls) (h ∷ hs) = nat_abs c * box_reach l h + reaches cs ls hs

-- the absolute stage cost sum: |constant| + sum |f||omega| + sum |c_j|*M_j + sum |e_k|*M_k
abbrev pub stage_cost_size : Node → List ℤ → ℕ
stage_cost_size n values = nat_abs n.constant + sizes n.random_costs values + reaches n.costs n.decision_low n.decision_high + reaches n.state_costs n.low n.high

-- the greatest over the realizations of the node m
abbrev pub node_size : Problem → ℕ → ℕ
node_size p m = greatest (map (λ (r : Realization). stage_cost_size (node_at p m) r.values) (node_at p m).realizations)

-- the greatest over all nodes
unfoldable pub most_size : Validated → ℕ
most_size p = greatest (map (node_size (problem_of p)) (numbers (length p.parts.nodes)))

-- the first of formulas 5 to 7 that is above its limit; a value stops where it is far above it
unfoldable pub too_big_of : Validated → Option TooMuch
too_big_of p =
    or_then (above 5 (2 ^ 16) (min (branch_count p) (2 ^ 32)))
    (or_then (above 6 (2 ^ 40) (min (root_denominator p) (2 ^ 41))) (above 7 (2 ^ 60) (min (p.longest * most_size p) (2 ^ 61))))
