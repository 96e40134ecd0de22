-- Small problems that were worked out by hand.
use Rattle.std.specs.Prelude.{ℕ, zero, suc, ◌-◌, ◌^◌, ℤ, pos, negsuc, [], ◌∷◌, Some, None}
use Rattle.problem.specs.declared.parts.Row.{Row}
use Rattle.theory.specs.declared.cut.Certificate.{Certificate}
use Rattle.theory.specs.Problem.{Realization, Node, Problem, no_node}
use Rattle.theory.specs.Tree.{Tree, Forest, no_branch, branch, no_tree, tree}

-- a realization without random values
abbrev pub plain : ℕ → Realization
plain w = record { weight = w; values = [] }

-- One reservoir and one thermal plant. Decisions are the volume afterwards in [0,10], the turbine in [0,8] and the
-- thermal power in [0,20] of cost 5; the inflow is 1 or 3, the demand 9, the volume before in [0,10].

-- volume afterwards + turbine - volume before - inflow = 0
abbrev pub water : Row
water = record { low = Some (pos 0); high = Some (pos 0); decisions = (0, pos 1) ∷ (1, pos 1) ∷ []; states = (0, negsuc 0) ∷ []; randoms = (0, negsuc 0) ∷ [] }

-- turbine + thermal power = 9
abbrev pub demand : Row
demand = record { low = Some (pos 9); high = Some (pos 9); decisions = (1, pos 1) ∷ (2, pos 1) ∷ []; states = []; randoms = [] }

-- the inflows 1 and 3 have the weights 1 and w
abbrev pub reservoir : ℕ → Node
reservoir w = record {
  decision_low = pos 0 ∷ pos 0 ∷ pos 0 ∷ [];
  decision_high = pos 10 ∷ pos 8 ∷ pos 20 ∷ [];
  costs = pos 0 ∷ pos 0 ∷ pos 5 ∷ [];
  outs = 0 ∷ [];
  rows = water ∷ demand ∷ [];
  constant = pos 0;
  state_costs = pos 0 ∷ [];
  random_costs = pos 0 ∷ [];
  low = pos 0 ∷ [];
  high = pos 10 ∷ [];
  realizations = record { weight = 1; values = pos 1 ∷ [] } ∷ record { weight = w; values = pos 3 ∷ [] } ∷ [];
  successors = [];
  stop = 0;
}

-- the reservoir's node alone, from volume 4
abbrev reservoir_at : ℕ → ℕ → Node
reservoir_at w zero = reservoir w
reservoir_at w (suc m) = no_node

abbrev pub reservoir_problem : ℕ → Problem
reservoir_problem w = record { nodes = reservoir_at w; root = record { node = 0; weight = 1 } ∷ []; initial = pos 4 ∷ [] }

-- the duals -5 and 5 at scale 2^24
abbrev pub reservoir_certificate : Certificate
reservoir_certificate = record { rows = negsuc 83886079 ∷ pos 83886080 ∷ []; cuts = [] }

-- In halves, from volume 4: at inflow 1 volume 1/2 is left, 9/2 go through the turbine, and 9/2 are thermal.
-- At inflow 3 nothing is left, 7 go through the turbine, and 2 are thermal. These cost 45/2 and 10.
abbrev pub tree_in_halves : Tree
tree_in_halves = branch (pos 1 ∷ pos 9 ∷ pos 9 ∷ []) no_tree (branch (pos 0 ∷ pos 14 ∷ pos 4 ∷ []) no_tree no_branch)

-- this tree with one half more left at inflow 1, which is water from nowhere
abbrev pub wrong_tree : Tree
wrong_tree = branch (pos 2 ∷ pos 9 ∷ pos 9 ∷ []) no_tree (branch (pos 0 ∷ pos 14 ∷ pos 4 ∷ []) no_tree no_branch)

-- In whole units, from volume 4: nothing is left. This costs 20 at inflow 1 and 10 at inflow 3.
abbrev pub best_tree : Tree
best_tree = branch (pos 0 ∷ pos 5 ∷ pos 4 ∷ []) no_tree (branch (pos 0 ∷ pos 7 ∷ pos 2 ∷ []) no_tree no_branch)

-- the root has one successor
abbrev pub policy_of : Tree → Forest
policy_of t = tree t no_tree

-- A leaf with a negative box: state x in [-7,-2], decision u in [-10,0] of cost 2 that is also the outgoing state,
-- row u - x >= 0, and two realizations of weights 1 and 2.

abbrev pub negative_box : Node
negative_box = record {
  decision_low = negsuc 9 ∷ [];
  decision_high = pos 0 ∷ [];
  costs = pos 2 ∷ [];
  outs = 0 ∷ [];
  rows = record { low = Some (pos 0); high = None; decisions = (0, pos 1) ∷ []; states = (0, negsuc 0) ∷ []; randoms = [] } ∷ [];
  constant = pos 0;
  state_costs = pos 0 ∷ [];
  random_costs = [];
  low = negsuc 6 ∷ [];
  high = negsuc 1 ∷ [];
  realizations = plain 1 ∷ plain 2 ∷ [];
  successors = [];
  stop = 0;
}

-- one multiplier on the one row
abbrev pub with_row : ℤ → Certificate
with_row y = record { rows = y ∷ []; cuts = [] }

-- A graph of three nodes: 2 leads to 0 with weight 1 and to 1 with weight 3, and may stop. One state in [0,10] that is
-- decided at no cost; a stage costs 8 at node 0, 4 at node 1 and nothing at node 2.

abbrev stage_of : ℤ → Node
stage_of constant = record {
  decision_low = pos 0 ∷ [];
  decision_high = pos 10 ∷ [];
  costs = pos 0 ∷ [];
  outs = 0 ∷ [];
  rows = [];
  constant = constant;
  state_costs = pos 0 ∷ [];
  random_costs = [];
  low = pos 0 ∷ [];
  high = pos 10 ∷ [];
  realizations = plain 1 ∷ [];
  successors = [];
  stop = 0;
}

abbrev pub fork : ℕ → Node
fork stop = record (stage_of (pos 0)) { successors = record { node = 0; weight = 1 } ∷ record { node = 1; weight = 3 } ∷ []; stop = stop }

abbrev fork_at : ℕ → ℕ → Node
fork_at stop zero = stage_of (pos 8)
fork_at stop (suc zero) = stage_of (pos 4)
fork_at stop (suc (suc zero)) = fork stop
fork_at stop (suc (suc (suc m))) = no_node

abbrev pub fork_problem : ℕ → Problem
fork_problem stop = record { nodes = fork_at stop; root = record { node = 2; weight = 1 } ∷ []; initial = pos 5 ∷ [] }

-- one multiplier for the first cut of each successor
abbrev pub with_pairs : ℕ → ℕ → Certificate
with_pairs first second = record { rows = []; cuts = ((0, first) ∷ []) ∷ ((0, second) ∷ []) ∷ [] }

-- in whole units: 3, then 2 at node 0 and 7 at node 1
abbrev pub fork_tree : Tree
fork_tree = branch (pos 3 ∷ []) (tree (branch (pos 2 ∷ []) no_tree no_branch) (tree (branch (pos 7 ∷ []) no_tree no_branch) no_tree)) no_branch

-- A leaf at the edge of 128 bits: state x in [0,1], its outgoing value in [0,1], u in [0, 2^39] of cost 2^40 - 1,
-- z in [0, high] of cost 1, and the row x >= 0.

abbrev pub edge : ℤ → Node
edge high = record {
  decision_low = pos 0 ∷ pos 0 ∷ pos 0 ∷ [];
  decision_high = pos 1 ∷ pos (2 ^ 39) ∷ high ∷ [];
  costs = pos 0 ∷ pos (2 ^ 40 - 1) ∷ pos 1 ∷ [];
  outs = 0 ∷ [];
  rows = record { low = Some (pos 0); high = None; decisions = []; states = (0, pos 1) ∷ []; randoms = [] } ∷ [];
  constant = pos 0;
  state_costs = pos 0 ∷ [];
  random_costs = [];
  low = pos 0 ∷ [];
  high = pos 1 ∷ [];
  realizations = plain 1 ∷ [];
  successors = [];
  stop = 0;
}

-- Like edge, with cost 2^39 - 1 of u, the state in [-1,0], and two realizations.
abbrev pub edge_twice : Node
edge_twice = record (edge (pos (2 ^ 39 - 1))) {
  costs = pos 0 ∷ pos (2 ^ 39 - 1) ∷ pos 1 ∷ [];
  low = negsuc 0 ∷ [];
  high = pos 0 ∷ [];
  realizations = record { weight = 1; values = [] } ∷ record { weight = 1; values = [] } ∷ [];
}
