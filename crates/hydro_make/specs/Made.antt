-- The problem made from a hydro description: one node a stage, each the next one's predecessor.
use Rattle.std.specs.Prelude.{ℕ, suc, ℤ, pos, List, [], ◌∷◌, map, drop}
use Rattle.theory.specs.Problem.{Realization, Successor, Node, Problem, no_node}
use Rattle.hydro_read.specs.declared.plants.Inflow.{Inflow}
use Rattle.hydro_read.specs.declared.plants.Stage.{Stage}
use Rattle.hydro_read.specs.declared.plants.Plants.{Plants}
use Rattle.hydro_make.specs.Layout.{stores, hydro_variables, chances, store_low, store_high, store_initial, store_place, variable_least, variable_greatest, cost_of, chance_value}
use Rattle.hydro_make.specs.Rows.{all_rows, no_store, no_chance}

-- the inflow's water and the stage's demand
abbrev pub realization : Plants → List ℤ → Inflow → Realization
realization h demand i = record { weight = i.weight; values = map (chance_value demand i.water) (chances h) }

-- the node m, where stages are left from there on
abbrev pub following : ℕ → List Stage → List Successor
following m [] = []
following m (s ∷ later) = record { node = m; weight = 1 } ∷ []

unfoldable pub stage_node : Plants → Stage → List Successor → Node
stage_node h s successors = record {
  decision_low = map (variable_least h) (hydro_variables h);
  decision_high = map (variable_greatest h) (hydro_variables h);
  costs = map (cost_of h) (hydro_variables h);
  outs = map (store_place h) (stores h);
  rows = all_rows h;
  constant = pos 0;
  state_costs = map no_store (stores h);
  random_costs = map no_chance (chances h);
  low = map (store_low h) (stores h);
  high = map (store_high h) (stores h);
  realizations = map (realization h s.demand) s.inflows;
  successors = successors;
  stop = 0;
}

-- the node m, of the first of the stages that are left
abbrev pub node_from : Plants → ℕ → List Stage → Node
node_from h m [] = no_node
node_from h m (s ∷ later) = stage_node h s (following (suc m) later)

abbrev pub problem_of_plants : Plants → Problem
problem_of_plants h = record {
  nodes = λ m. node_from h m (drop m h.stages);
  root = following 0 h.stages;
  initial = map (store_initial h) (stores h);
}
