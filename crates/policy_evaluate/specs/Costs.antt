-- The cost of the tree while it is walked through, over the least common denominator.
use Rattle.std.specs.Prelude.{ℕ, zero, suc, ◌*◌, ◌/◌, ℤ, pos, ◌+ℤ◌, ◌*ℤ◌, List, [], ◌∷◌, Result, Ok, sum}
use Rattle.base_num.specs.Steps.{◌>>=◌}
use Rattle.theory.specs.Problem.{S, Realization, Successor, Node, Problem, node_at, successor_weights, realization_weight, successor_weight}
use Rattle.theory.specs.Tree.{times_all}
use Rattle.plan_draw.specs.declared.steps.PathStep.{PathStep}
use Rattle.plan_forward.specs.Costing.{stage_cost_of}
use Rattle.policy_evaluate.specs.Multiples.{gcd, lcm}
use Rattle.policy_evaluate.specs.PolicyTree.{Deciding, Stop, stop_behind}
use Rattle.policy_evaluate.specs.declared.costs.Walked.{Walked}

-- no cost, after so many branches
abbrev pub no_cost : ℕ → Walked
no_cost decided = record { up = pos 0; under = 1; decided = decided }

-- a sum with one cost more, times its weight, over the least common multiple of both
abbrev pub add_cost : Walked → ℕ → Walked → Walked
add_cost sum weight w = record {
  up = sum.up *ℤ pos (w.under / gcd sum.under w.under) +ℤ pos weight *ℤ w.up *ℤ pos (sum.under / gcd sum.under w.under);
  under = lcm sum.under w.under;
  decided = w.decided;
}

-- the costs of successors, times their weights
abbrev pub successor_costs : (ℕ → ℕ → Result Walked Stop) → Walked → List Successor → Result Walked Stop
successor_costs go sum [] = Ok sum
successor_costs go sum (l ∷ ls) = go sum.decided l.node >>= λ w. successor_costs go (add_cost sum l.weight w) ls

-- the cost of a stage, and behind it the successors by their weight of q together
abbrev pub add_stage : ℕ → ℤ → Walked → Walked
add_stage q cost w = record { up = pos (q * w.under) *ℤ cost +ℤ w.up; under = q * w.under; decided = w.decided }

abbrev pub branch_cost : Deciding → (List ℤ → ℕ → ℕ → Result Walked Stop) → Node → ℕ → PathStep → List ℤ → List ℤ → Result Walked Stop
branch_cost decide go n decided s values x =
    decide decided s values x >>= λ d. stop_behind s (successor_costs (go d.next) (no_cost (suc decided)) n.successors) >>= λ w. Ok (add_stage (successor_weight n) (stage_cost_of n d.decisions x values) w)

-- all branches of a node stand over the same number
abbrev pub add_branch : Walked → ℕ → Walked → Walked
add_branch sum weight w = record { up = sum.up +ℤ pos weight *ℤ w.up; under = w.under; decided = w.decided }

abbrev pub branch_costs : Deciding → (List ℤ → ℕ → ℕ → Result Walked Stop) → Node → ℕ → Walked → ℕ → List Realization → List ℤ → Result Walked Stop
branch_costs decide go n m sum i [] x = Ok sum
branch_costs decide go n m sum i (r ∷ rs) x =
    branch_cost decide go n sum.decided (record { node = m; realization = i }) r.values x >>= λ w. branch_costs decide go n m (add_branch sum r.weight w) (suc i) rs x

-- a share of a cost
abbrev pub share : ℕ → Walked → Walked
share weight w = record { up = w.up; under = weight * w.under; decided = w.decided }

-- the cost of the tree of the node m from a state, of at most n stages
abbrev pub tree_cost : Deciding → Problem → ℕ → List ℤ → ℕ → ℕ → Result Walked Stop
tree_cost decide p zero x decided m = Ok (no_cost decided)
tree_cost decide p (suc n) x decided m =
    branch_costs decide (tree_cost decide p n) (node_at p m) m (no_cost decided) 0 (node_at p m).realizations x >>= λ w. Ok (share (realization_weight (node_at p m)) w)

-- the cost of the whole policy
abbrev pub root_cost : Deciding → Problem → ℕ → Result Walked Stop
root_cost decide p n = successor_costs (tree_cost decide p n (times_all S p.initial)) (no_cost 0) p.root >>= λ w. Ok (share (sum (successor_weights p.root)) w)
