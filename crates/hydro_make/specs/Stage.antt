-- The text of the subproblem of each stage.
use Rattle.std.specs.Prelude.{ℕ, suc, ◌==◌, ℤ, pos, negsuc, List, [], ◌∷◌, ◌++◌, map, Option, Some, None, not, nat_lt, if◌then◌else◌}
use Rattle.std.specs.List.{flat_map}
use Rattle.std.specs.Ordering.{int_eq}
use Rattle.serde_json.specs.Data.{Data, string, Members}
use Rattle.hydro_form.specs.Listed.{members_by}
use Rattle.hydro_form.specs.Stage.{variable, term, row, variable_bound, least_sum, state_between, program_form, subproblem_form}
use Rattle.hydro_read.specs.declared.plants.Travel.{Travel}
use Rattle.hydro_read.specs.declared.plants.Plants.{Plants}
use Rattle.hydro_make.specs.Layout.{HydroStore, volume_of, way_of, after, turbine_of, spill_of, thermal_of, line_of, deficit_of, inflow_of, demand_of, numbered_reservoir, thermal, line, bus, travel, all_reservoirs, all_thermals, all_lines, all_buses, steps, stores, chances, store_low, store_high, variable_least, variable_greatest}
use Rattle.hydro_make.specs.Columns.{Column, before, random, decided, columns, state_name, before_name, after_name, chance_name, column_name}

-- ---- sums of a row or of the objective: each variable with its factor, in the order in which they are written

abbrev pub Sum : Type 0
Sum = List (ℤ × Column)

abbrev pub plus_column : Column → ℤ × Column
plus_column c = (pos 1, c)

abbrev pub minus_column : Column → ℤ × Column
minus_column c = (negsuc 0, c)

-- the water that comes from reservoir i to reservoir j: all that leaves i where it is there at once, else all that arrives with this stage
abbrev pub coming_by : ℕ → Option Travel → ℕ → Sum
coming_by i None j = []
coming_by i (Some t) j =
    if t.target == j then (if t.stages == 0 then minus_column (decided (turbine_of i)) ∷ minus_column (decided (spill_of i)) ∷ [] else minus_column (before (way_of i 1)) ∷ []) else []

unfoldable pub coming : Plants → ℕ → ℕ → Sum
coming h j i = coming_by i (numbered_reservoir h i).downstream j

-- the water of reservoir j
unfoldable pub water_sum : Plants → ℕ → Sum
water_sum h j =
    plus_column (decided (after (volume_of j))) ∷ plus_column (decided (turbine_of j)) ∷ plus_column (decided (spill_of j)) ∷ minus_column (before (volume_of j)) ∷ minus_column (random (inflow_of j)) ∷ []
    ++ flat_map (coming h j) (all_reservoirs h)

-- the source of the water of reservoir j that is k stages away after a stage: the water that was k + 1 stages away, or where it travels for
-- k stages the water that leaves the reservoir now
abbrev pub way_source : Plants → ℕ → ℕ → Sum
way_source h j k = if nat_lt k (travel h j) then minus_column (before (way_of j (suc k))) ∷ [] else minus_column (decided (turbine_of j)) ∷ minus_column (decided (spill_of j)) ∷ []

unfoldable pub way_sum : Plants → ℕ → ℕ → Sum
way_sum h j k = plus_column (decided (after (way_of j k))) ∷ way_source h j k

unfoldable pub turbined_at : Plants → ℕ → ℕ → Sum
turbined_at h b j = if (numbered_reservoir h j).bus == b then ((numbered_reservoir h j).factor, decided (turbine_of j)) ∷ [] else []

unfoldable pub burned_at : Plants → ℕ → ℕ → Sum
burned_at h b i = if (thermal h i).bus == b then plus_column (decided (thermal_of i)) ∷ [] else []

unfoldable pub arriving_at : Plants → ℕ → ℕ → Sum
arriving_at h b l = if (line h l).target == b then plus_column (decided (line_of l)) ∷ [] else []

unfoldable pub leaving_at : Plants → ℕ → ℕ → Sum
leaving_at h b l = if (line h l).source == b then minus_column (decided (line_of l)) ∷ [] else []

-- the energy at bus b
unfoldable pub bus_sum : Plants → ℕ → Sum
bus_sum h b =
    flat_map (turbined_at h b) (all_reservoirs h) ++ flat_map (burned_at h b) (all_thermals h) ++ flat_map (arriving_at h b) (all_lines h) ++ flat_map (leaving_at h b) (all_lines h)
    ++ plus_column (decided (deficit_of b)) ∷ minus_column (random (demand_of b)) ∷ []

abbrev pub thermal_cost : Plants → ℕ → ℤ × Column
thermal_cost h i = ((thermal h i).cost, decided (thermal_of i))

abbrev pub deficit_cost : Plants → ℕ → ℤ × Column
deficit_cost h b = ((bus h b).deficit_cost, decided (deficit_of b))

-- none where it costs nothing
unfoldable pub spill_cost_at : Plants → ℕ → Sum
spill_cost_at h j = if not (int_eq (numbered_reservoir h j).spill_cost (pos 0)) then ((numbered_reservoir h j).spill_cost, decided (spill_of j)) ∷ [] else []

unfoldable pub hydro_cost_sum : Plants → Sum
hydro_cost_sum h = map (thermal_cost h) (all_thermals h) ++ map (deficit_cost h) (all_buses h) ++ flat_map (spill_cost_at h) (all_reservoirs h)

-- ---- their text

abbrev pub column_term : Plants → ℤ × Column → Data
column_term h t = term t.0 (column_name h t.1)

-- the sum is 0
unfoldable pub zero_row : Plants → Sum → Data
zero_row h s = row 0 (map (column_term h) s)

abbrev pub column_variable : Plants → Column → Data
column_variable h c = variable (column_name h c)

unfoldable pub way_constraints : Plants → ℕ → List Data
way_constraints h j = map (λ k. zero_row h (way_sum h j k)) (steps (travel h j))

unfoldable pub rows : Plants → List Data
rows h =
    map (λ j. zero_row h (water_sum h j)) (all_reservoirs h) ++ flat_map (way_constraints h) (all_reservoirs h) ++ map (λ b. zero_row h (bus_sum h b)) (all_buses h)

-- random variables have no bounds
unfoldable pub bounds_of : Plants → Column → List Data
bounds_of h (before s) = variable_bound (before_name h s) (store_low h s) (store_high h s) ∷ []
bounds_of h (random c) = []
bounds_of h (decided v) = variable_bound (column_name h (decided v)) (variable_least h v) (variable_greatest h v) ∷ []

unfoldable pub constraints : Plants → List Data
constraints h = rows h ++ flat_map (bounds_of h) (columns h)

unfoldable pub objective : Plants → Data
objective h = least_sum (map (column_term h) (hydro_cost_sum h))

abbrev pub state : Plants → HydroStore → Data
state h s = state_between (before_name h s) (after_name h s)

unfoldable pub states : Plants → Members
states h = members_by (state_name h) (state h) (stores h)

unfoldable pub random_variables : Plants → List Data
random_variables h = map (λ c. string (chance_name h c)) (chances h)

unfoldable pub program : Plants → Data
program h = program_form (constraints h) (objective h) (map (column_variable h) (columns h))

unfoldable pub subproblem : Plants → Data
subproblem h = subproblem_form (random_variables h) (states h) (program h)
