-- Nodes without successors: the least costs of their stages, and the size of their base cuts.
-- Source: Neumaier and Shcherbina 2004, with all multipliers 0.
use Rattle.std.specs.Prelude.{ℤ, pos, ◌+ℤ◌, ◌*ℤ◌, List, length}
use Rattle.base_num.specs.Sums.{sum_to, total, entry, dot}
use Rattle.theory.specs.Problem.{Node, Realization}
use Rattle.theory.specs.CutOf.{box_least}
use Rattle.theory.specs.Size.{magnitude, magnitudes, reach}

-- the least cost of a stage, but for its incoming state: constant + f·omega + the sum of min(c_j l_j, c_j h_j)
abbrev pub least_stage : Node → List ℤ → ℤ
least_stage n values = n.constant +ℤ dot n.random_costs values +ℤ sum_to (length n.costs) (λ j. box_least n j (entry n.costs j))

-- the sum of that over the realizations, by their weights
abbrev pub least_cost : Node → ℤ
least_cost n = total (λ (r : Realization). pos r.weight *ℤ least_stage n r.values) n.realizations

-- |constant| + the sums of |f||omega|, M_j |c_j| and M_k |e_k|
abbrev pub stage_size : Node → List ℤ → ℤ
stage_size n values =
    magnitude n.constant +ℤ dot (magnitudes n.random_costs) (magnitudes values) +ℤ sum_to (length n.costs) (λ j. reach n.decision_low n.decision_high j *ℤ magnitude (entry n.costs j))
    +ℤ sum_to (length n.low) (λ k. reach n.low n.high k *ℤ magnitude (entry n.state_costs k))

-- the sum of that over the realizations, by their weights
abbrev pub cost_size : Node → ℤ
cost_size n = total (λ (r : Realization). pos r.weight *ℤ stage_size n r.values) n.realizations
