-- The expected cost of a decision tree and of a policy, by the weights; the stop weight's share of the future costs nothing.
-- Source: Pereira and Pinto 1991; the stop weight as a discount, Dowson 2020.
use Rattle.std.specs.Prelude.{ℕ, ℤ, pos, ◌+ℤ◌, ◌*ℤ◌, List, [], ◌∷◌, sum}
use Rattle.base_num.specs.Sums.{dot}
use Rattle.theory.specs.Fraction.{Fraction, nothing, plus, times, over, weighted}
use Rattle.theory.specs.Problem.{Realization, Successor, Node, Problem, node_at, successor_weights, realization_weight, successor_weight}
use Rattle.theory.specs.Tree.{Tree, Forest, no_branch, branch, no_tree, tree, next_state, times_all}

-- Stage: (N*constant + N*(f·omega) + c·u + e·xi) / N
abbrev pub stage : ℕ → Node → List ℤ → List ℤ → List ℤ → Fraction
stage units n values xi u = record { up = pos units *ℤ n.constant +ℤ pos units *ℤ dot n.random_costs values +ℤ dot n.costs u +ℤ dot n.state_costs xi; under = units }

abbrev mutual
  -- the sum over the branches of weight * (stage + (sum of successor weight * cost) / Q)
  pub cost_sum : Problem → ℕ → Node → List Realization → List ℤ → Tree → Fraction
  cost_sum p units n rs xi no_branch = nothing
  cost_sum p units n [] xi (branch u f t) = nothing
  cost_sum p units n (r ∷ rs) xi (branch u f t) =
      plus (times r.weight (plus (stage units n r.values xi u) (over (weighted (successor_weights n.successors) (costs_of p units n.successors (next_state n u) f)) (successor_weight n)))) (cost_sum p units n rs xi t)

  -- the costs of the successors' trees
  pub costs_of : Problem → ℕ → List Successor → List ℤ → Forest → List Fraction
  costs_of p units ls x no_tree = []
  costs_of p units [] x (tree t f) = []
  costs_of p units (l ∷ ls) x (tree t f) = over (cost_sum p units (node_at p l.node) (node_at p l.node).realizations x t) (realization_weight (node_at p l.node)) ∷ costs_of p units ls x f

-- Cost: that sum over W
abbrev pub cost : Problem → ℕ → ℕ → List ℤ → Tree → Fraction
cost p units m xi t = over (cost_sum p units (node_at p m) (node_at p m).realizations xi t) (realization_weight (node_at p m))

-- PolicyCost: the average of the trees' costs by the root's weights
abbrev pub policy_cost : Problem → ℕ → Forest → Fraction
policy_cost p units f = over (weighted (successor_weights p.root) (costs_of p units p.root (times_all units p.initial) f)) (sum (successor_weights p.root))
