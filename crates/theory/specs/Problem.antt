-- A multistage problem over a policy graph. A node is one flat record with its subproblem, realizations and successors.
-- Source: Dowson 2020, The policy graph decomposition of multistage stochastic programming problems.
use Rattle.std.specs.Prelude.{ℕ, ◌+◌, ℤ, pos, List, [], ◌∷◌, sum}
use Rattle.problem.specs.declared.parts.Row.{Row}

-- the scale of multipliers and cuts
unfoldable pub S : ℕ
S = 16777216

-- the values omega of the random variables, and a weight
pub record Realization : Type 0 where
  pub weight : ℕ
  pub values : List ℤ

-- a successor, and a weight
pub record Successor : Type 0 where
  pub node : ℕ
  pub weight : ℕ

pub record Node : Type 0 where
  -- the decisions: their boxes, their costs, and for each state the one that is its outgoing value
  pub decision_low : List ℤ
  pub decision_high : List ℤ
  pub costs : List ℤ
  pub outs : List ℕ
  -- low ≤ decisions·u + states·x + randoms·omega ≤ high, where either side may be absent
  pub rows : List Row
  -- the stage costs without the decisions
  pub constant : ℤ
  pub state_costs : List ℤ
  pub random_costs : List ℤ
  -- the box of the incoming state
  pub low : List ℤ
  pub high : List ℤ
  -- the realizations here, and the successors after it
  pub realizations : List Realization
  pub successors : List Successor
  pub stop : ℕ

pub record Problem : Type 0 where
  pub nodes : ℕ → Node
  pub root : List Successor
  pub initial : List ℤ

abbrev pub no_node : Node
no_node = record { decision_low = []; decision_high = []; costs = []; outs = []; rows = []; constant = pos 0; state_costs = []; random_costs = []; low = []; high = []; realizations = []; successors = []; stop = 0 }

abbrev pub node_at : Problem → ℕ → Node
node_at p m = p.nodes m

abbrev pub weight_of_realizations : List Realization → ℕ
weight_of_realizations [] = 0
weight_of_realizations (r ∷ rs) = r.weight + weight_of_realizations rs

abbrev pub successor_weights : List Successor → List ℕ
successor_weights [] = []
successor_weights (l ∷ ls) = l.weight ∷ successor_weights ls

-- W: the total of the realization weights
abbrev pub realization_weight : Node → ℕ
realization_weight n = weight_of_realizations n.realizations

abbrev pub weight_of_successors : ℕ → List Successor → ℕ
weight_of_successors stop [] = 1
weight_of_successors stop (l ∷ ls) = stop + sum (successor_weights (l ∷ ls))

-- Q: the stop weight and the successor weights, 1 without successors
abbrev pub successor_weight : Node → ℕ
successor_weight n = weight_of_successors n.stop n.successors

-- the realizations with other weights
abbrev pub reweighted : List ℕ → List Realization → List Realization
reweighted [] rs = []
reweighted (w ∷ ws) [] = []
reweighted (w ∷ ws) (r ∷ rs) = record { weight = w; values = r.values } ∷ reweighted ws rs

-- the node with given weights for its realizations: its Right, Size and CutOf are those with these weights
abbrev pub with_weights : List ℕ → Node → Node
with_weights ws n = record n { realizations = reweighted ws n.realizations }
