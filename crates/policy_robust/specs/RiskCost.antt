-- The risk cost of a decision tree and of a policy: each node weighs its realizations by the worst of several lists of weights.
-- Source: the risk measures of Shapiro, Dentcheva and Ruszczynski 2009, as the greatest expectation over a set of weights.
use Rattle.std.specs.Prelude.{◌≡◌, ℕ, ◌<◌, ℤ, pos, ◌*ℤ◌, List, [], ◌∷◌, sum, int_lt, All, if◌then◌else◌}
use Rattle.theory.specs.declared.cut.Cut.{Cut}
use Rattle.theory.specs.Fraction.{Fraction, ◌≤ᶠ◌, nothing, plus, over, weighted}
use Rattle.theory.specs.Problem.{S, Realization, Successor, Node, Problem, node_at, successor_weights, successor_weight}
use Rattle.theory.specs.Tree.{Tree, Forest, no_branch, branch, no_tree, tree, next_state, times_all, InBox, Feasible, Policy}
use Rattle.theory.specs.Cost.{stage}
use Rattle.theory.specs.Pools.{cut_value, pool}
use Rattle.policy_robust.specs.Listed.{lists_at, own_weights}

-- the greater of two fractions
abbrev pub greater_fraction : Fraction → Fraction → Fraction
greater_fraction f g = if int_lt (f.up *ℤ pos g.under) (g.up *ℤ pos f.under) then g else f

-- the average of the costs by the weights
abbrev pub average_cost : List ℕ → List Fraction → Fraction
average_cost ws costs = over (weighted ws costs) (sum ws)

-- the greatest average over the lists of weights
abbrev pub worst : List (List ℕ) → List Fraction → Fraction
worst [] costs = nothing
worst (ws ∷ []) costs = average_cost ws costs
worst (ws ∷ (vs ∷ lists)) costs = greater_fraction (average_cost ws costs) (worst (vs ∷ lists) costs)

-- x has for each node its lists of weights, its own first
abbrev mutual
  -- for each branch the stage + (the sum of successor weight * risk cost) / Q
  pub branch_risk_costs : Problem → List (List (List ℕ)) → ℕ → Node → List Realization → List ℤ → Tree → List Fraction
  branch_risk_costs p x units n rs xi no_branch = []
  branch_risk_costs p x units n [] xi (branch u f t) = []
  branch_risk_costs p x units n (r ∷ rs) xi (branch u f t) =
      plus (stage units n r.values xi u) (over (weighted (successor_weights n.successors) (risk_costs p x units n.successors (next_state n u) f)) (successor_weight n)) ∷ branch_risk_costs p x units n rs xi t

  -- the risk costs of the successors' trees
  pub risk_costs : Problem → List (List (List ℕ)) → ℕ → List Successor → List ℤ → Forest → List Fraction
  risk_costs p x units ls xi no_tree = []
  risk_costs p x units [] xi (tree t f) = []
  risk_costs p x units (l ∷ ls) xi (tree t f) = worst (lists_at x l.node) (branch_risk_costs p x units (node_at p l.node) (node_at p l.node).realizations xi t) ∷ risk_costs p x units ls xi f

-- RiskCost: at each node the greatest average of its branches' costs over its lists
abbrev pub risk_cost : Problem → List (List (List ℕ)) → ℕ → ℕ → List ℤ → Tree → Fraction
risk_cost p x units m xi t = worst (lists_at x m) (branch_risk_costs p x units (node_at p m) (node_at p m).realizations xi t)

-- RiskPolicyCost: the average of the trees' risk costs by the root's weights
abbrev pub risk_policy_cost : Problem → List (List (List ℕ)) → ℕ → Forest → Fraction
risk_policy_cost p x units f = over (weighted (successor_weights p.root) (risk_costs p x units p.root (times_all units p.initial) f)) (sum (successor_weights p.root))

-- RiskHolds: at every state of the node's box, in any units, the risk cut is at most the risk cost of each feasible tree
abbrev pub RiskHolds : Problem → List (List (List ℕ)) → ℕ → Cut → Type 0
RiskHolds p x m c = (units : ℕ) (xi : List ℤ) (t : Tree) → 0 < units → InBox units (node_at p m).low (node_at p m).high xi → Feasible p units m xi t → cut_value units xi c ≤ᶠ risk_cost p x units m xi t

-- each risk cut of each node holds there
abbrev pub RiskSound : Problem → List (List (List ℕ)) → List (List Cut) → Type 0
RiskSound p x risk_cuts = (m : ℕ) → All (RiskHolds p x m) (pool risk_cuts m)

-- RiskUnder: b / S is at most the risk cost of each policy, in any units
abbrev pub RiskUnder : Problem → List (List (List ℕ)) → ℤ → Type 0
RiskUnder p x b = (units : ℕ) (f : Forest) → 0 < units → Policy p units f → record { up = b; under = S } ≤ᶠ risk_policy_cost p x units f

-- each node's successors have weight, and each of its lists
pub record Weighty (p : Problem) (x : List (List (List ℕ))) : Type 0 where
  pub successors : (m : ℕ) → 0 < successor_weight (node_at p m)
  pub lists : (m : ℕ) → All (λ (ws : List ℕ). 0 < sum ws) (lists_at x m)

-- each of so many nodes lists its own weights alone
abbrev pub ListsOwn : Problem → ℕ → List (List (List ℕ)) → Type 0
ListsOwn p count x = (m : ℕ) → m < count → lists_at x m ≡ own_weights (node_at p m) ∷ []
