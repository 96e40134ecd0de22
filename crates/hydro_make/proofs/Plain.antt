-- The problem made from hydro plants has no float, and its parts are nested in few levels.
use Rattle.std.proofs.Common.{ℕ, suc, ℤ, List, ◌++◌, length, map, nat_lt}
use Rattle.std.specs.List.{flat_map}
use Rattle.serde_json.specs.Data.{string}
use Rattle.hydro_form.specs.Listed.{integer}
use Rattle.hydro_form.proofs.Plain as plain
use Rattle.hydro_form.proofs.Plain.{Plain, PlainList, PlainMembers, plain_whole, plain_integer, plain_string, none, empty, with_member, with_item, appended, mapped, flattened, listed, listed_by, either_members}
use Rattle.hydro_read.specs.declared.plants.Inflow.{Inflow}
use Rattle.hydro_read.specs.declared.plants.Plants.{Plants}
use Rattle.hydro_make.specs.Layout.{inflow_of, demand_of, all_reservoirs, all_buses, chance_value, chances, stores, store_initial, steps, travel}
use Rattle.hydro_make.specs.Columns.{Column, before, random, decided, columns, state_name, chance_name}
use Rattle.hydro_make.specs.Stage as stage
use Rattle.hydro_make.specs.Nodes as nodes
use Rattle.hydro_make.specs.Text.{hydro_initial_values, hydro_root, hydro_data}

module _ (h : Plants) where
  terms_plain : (s : stage.Sum) → PlainList 1 (map (stage.column_term h) s)
  terms_plain s = mapped 1 (stage.column_term h) (λ t. plain.term_plain _ _) s

  row_plain : (s : stage.Sum) → Plain 4 (stage.zero_row h s)
  unfolding stage.zero_row
  row_plain s = plain.row_plain 0 (map (stage.column_term h) s) (terms_plain s)

  ways_plain : (j : ℕ) → PlainList 4 (stage.way_constraints h j)
  unfolding stage.way_constraints
  ways_plain j = mapped 4 (λ k. stage.zero_row h (stage.way_sum h j k)) (λ k. row_plain _) (steps (travel h j))

  rows_plain : PlainList 4 (stage.rows h)
  unfolding stage.rows
  rows_plain =
      let water = map (λ j. stage.zero_row h (stage.water_sum h j)) (all_reservoirs h) in
      let ways = flat_map (stage.way_constraints h) (all_reservoirs h) in
      let buses = map (λ b. stage.zero_row h (stage.bus_sum h b)) (all_buses h) in
      appended 4 (water ++ ways) buses (appended 4 water ways (mapped 4 (λ j. stage.zero_row h (stage.water_sum h j)) (λ j. row_plain _) (all_reservoirs h)) (flattened 4 (stage.way_constraints h) ways_plain (all_reservoirs h)))
      (mapped 4 (λ b. stage.zero_row h (stage.bus_sum h b)) (λ b. row_plain _) (all_buses h))

  bounds_plain : (c : Column) → PlainList 4 (stage.bounds_of h c)
  unfolding stage.bounds_of
  bounds_plain (before s) = with_item 4 _ _ (plain.bound_plain _ _ _) (empty 4)
  bounds_plain (random c) = empty 4
  bounds_plain (decided v) = with_item 4 _ _ (plain.bound_plain _ _ _) (empty 4)

  constraints_plain : PlainList 4 (stage.constraints h)
  unfolding stage.constraints
  constraints_plain = appended 4 (stage.rows h) (flat_map (stage.bounds_of h) (columns h)) rows_plain (flattened 4 (stage.bounds_of h) bounds_plain (columns h))

  objective_plain : Plain 4 (stage.objective h)
  unfolding stage.objective
  objective_plain = plain.least_sum_plain (map (stage.column_term h) (stage.hydro_cost_sum h)) (terms_plain (stage.hydro_cost_sum h))

  program_plain : Plain 6 (stage.program h)
  unfolding stage.program
  program_plain = plain.program_plain (stage.constraints h) (stage.objective h) (map (stage.column_variable h) (columns h)) constraints_plain objective_plain (mapped 1 (stage.column_variable h) (λ c. plain.variable_plain _) (columns h))

  randoms_plain : PlainList 0 (stage.random_variables h)
  unfolding stage.random_variables
  randoms_plain = mapped 0 (λ c. string (chance_name h c)) (λ c. plain_string 0 _) (chances h)

  states_plain : PlainMembers 1 (stage.states h)
  unfolding stage.states
  states_plain = listed_by 1 (state_name h) (stage.state h) (λ s. plain.state_plain _ _) (stores h)

  subproblem_plain : Plain 7 (stage.subproblem h)
  unfolding stage.subproblem
  subproblem_plain = plain.subproblem_plain (stage.random_variables h) (stage.states h) (stage.program h) randoms_plain states_plain program_plain

  -- ---- nodes

  support_plain : (demand water : List ℤ) → PlainMembers 0 (nodes.support h demand water)
  unfolding nodes.support
  support_plain demand water = listed_by 0 (chance_name h) (λ c. integer (chance_value demand water c)) (λ c. plain_integer 0 _) (map demand_of (all_buses h) ++ map inflow_of (all_reservoirs h))

  realization_plain : (demand : List ℤ) (i : Inflow) → Plain 2 (nodes.node_realization h demand i)
  unfolding nodes.node_realization
  realization_plain demand i = plain.realization_plain i.weight (nodes.support h demand i.water) (support_plain demand i.water)

  successor_plain : (m : ℕ) → PlainMembers 0 (nodes.successor_to h m)
  unfolding nodes.successor_to
  successor_plain m = either_members 0 (nat_lt m (length h.stages)) _ (with_member 0 _ _ _ (plain_whole 0 1) (none 0))

  node_plain : (m : ℕ) → Plain 4 (nodes.node h m)
  unfolding nodes.node
  node_plain m =
      plain.node_plain (map (nodes.node_realization h (nodes.hydro_stage h m).demand) (nodes.hydro_stage h m).inflows) (nodes.successor_to h (suc m))
      (mapped 2 (nodes.node_realization h (nodes.hydro_stage h m).demand) (realization_plain (nodes.hydro_stage h m).demand) (nodes.hydro_stage h m).inflows) (successor_plain (suc m))

  nodes_plain : PlainMembers 4 (nodes.nodes h)
  unfolding nodes.nodes
  nodes_plain = listed 4 nodes.node_name (nodes.node h) node_plain 0 (length h.stages)

  root_plain : Plain 2 (hydro_root h)
  unfolding hydro_root hydro_initial_values
  root_plain = plain.root_plain (hydro_initial_values h) (nodes.successor_to h 0) (listed_by 0 (state_name h) (λ s. integer (store_initial h s)) (λ s. plain_integer 0 _) (stores h)) (successor_plain 0)

  pub hydro_plain : Plain 9 (hydro_data h)
  unfolding hydro_data
  hydro_plain = plain.problem_plain (nodes.nodes h) (hydro_root h) (stage.subproblem h) nodes_plain root_plain subproblem_plain
