-- The states, the decisions and the random variables of a stage of hydro plants.
use Rattle.std.specs.Prelude.{ℕ, suc, ◌+◌, ◌^◌, ℤ, pos, ◌+ℤ◌, List, [], ◌∷◌, ◌++◌, length, map, get_or, Option, Some, None, nat_le, if◌then◌else◌}
use Rattle.std.specs.List.{flat_map}
use Rattle.base_num.specs.Sums.{entry, same_place}
use Rattle.base_graph.specs.Paths.{numbers}
use Rattle.hydro_read.specs.declared.plants.Bus.{Bus}
use Rattle.hydro_read.specs.declared.plants.Travel.{Travel}
use Rattle.hydro_read.specs.declared.plants.Reservoir.{Reservoir}
use Rattle.hydro_read.specs.declared.plants.Thermal.{Thermal}
use Rattle.hydro_read.specs.declared.plants.Line.{Line}
use Rattle.hydro_read.specs.declared.plants.Plants.{Plants}

-- ---- the plants by their numbers

abbrev pub numbered_reservoir : Plants → ℕ → Reservoir
numbered_reservoir h j = get_or h.reservoirs j (record { name = []; bus = 0; low = pos 0; high = pos 0; initial = pos 0; turbine = pos 0; spill = pos 0; factor = pos 0; spill_cost = pos 0; downstream = None })

abbrev pub thermal : Plants → ℕ → Thermal
thermal h i = get_or h.thermals i (record { name = []; bus = 0; high = pos 0; cost = pos 0 })

abbrev pub line : Plants → ℕ → Line
line h l = get_or h.lines l (record { name = []; source = 0; target = 0; high = pos 0 })

abbrev pub bus : Plants → ℕ → Bus
bus h b = get_or h.buses b (record { name = []; deficit_cost = pos 0 })

abbrev pub all_reservoirs : Plants → List ℕ
all_reservoirs h = numbers (length h.reservoirs)

abbrev pub all_thermals : Plants → List ℕ
all_thermals h = numbers (length h.thermals)

abbrev pub all_lines : Plants → List ℕ
all_lines h = numbers (length h.lines)

abbrev pub all_buses : Plants → List ℕ
all_buses h = numbers (length h.buses)

-- ---- where water goes

abbrev pub travel_of : Option Travel → ℕ
travel_of None = 0
travel_of (Some t) = t.stages

-- after how many stages the water of reservoir i is there
abbrev pub travel : Plants → ℕ → ℕ
travel h i = travel_of (numbered_reservoir h i).downstream

abbrev pub leads_by : Option Travel → ℕ → ℤ
leads_by None j = pos 0
leads_by (Some t) j = same_place t.target j

-- 1 where the water of reservoir i goes to reservoir j, else 0
abbrev pub leads : Plants → ℕ → ℕ → ℤ
leads h i j = leads_by (numbered_reservoir h i).downstream j

-- ---- states

pub data HydroStore : Type 0 where
  -- the volume of reservoir j
  volume_of : ℕ → HydroStore
  -- the water of reservoir j that arrives with the k-th stage from here
  way_of : ℕ → ℕ → HydroStore

-- 1, .., n
abbrev pub steps : ℕ → List ℕ
steps n = map suc (numbers n)

-- the water of reservoir j that is k stages away, where it travels so far
abbrev pub way_at : Plants → ℕ → ℕ → List HydroStore
way_at h k j = if nat_le k (travel h j) then way_of j k ∷ [] else []

abbrev pub ways : Plants → ℕ → List HydroStore
ways h k = flat_map (way_at h k) (all_reservoirs h)

-- in the order of the names p1:.., p2:.., p3:.., v:..; no water travels for more than three stages
abbrev pub stores : Plants → List HydroStore
stores h = flat_map (ways h) (steps 3) ++ map volume_of (all_reservoirs h)

abbrev pub store_low : Plants → HydroStore → ℤ
store_low h (volume_of j) = (numbered_reservoir h j).low
store_low h (way_of j k) = pos 0

abbrev pub store_high : Plants → HydroStore → ℤ
store_high h (volume_of j) = (numbered_reservoir h j).high
store_high h (way_of j k) = (numbered_reservoir h j).turbine +ℤ (numbered_reservoir h j).spill

abbrev pub store_initial : Plants → HydroStore → ℤ
store_initial h (volume_of j) = (numbered_reservoir h j).initial
store_initial h (way_of j k) = pos 0

-- ---- decisions

pub data Variable : Type 0 where
  -- a state after the stage
  after : HydroStore → Variable
  -- the water through the turbine of reservoir j, and past it
  turbine_of : ℕ → Variable
  spill_of : ℕ → Variable
  -- the energy of thermal i, on line l, and missing at bus b
  thermal_of : ℕ → Variable
  line_of : ℕ → Variable
  deficit_of : ℕ → Variable

abbrev pub variables_of : Plants → ℕ → List Variable
variables_of h j = after (volume_of j) ∷ turbine_of j ∷ spill_of j ∷ map (λ k. after (way_of j k)) (steps (travel h j))

abbrev pub hydro_variables : Plants → List Variable
hydro_variables h = flat_map (variables_of h) (all_reservoirs h) ++ map thermal_of (all_thermals h) ++ map line_of (all_lines h) ++ map deficit_of (all_buses h)

abbrev pub variable_least : Plants → Variable → ℤ
variable_least h (after s) = store_low h s
variable_least h (turbine_of j) = pos 0
variable_least h (spill_of j) = pos 0
variable_least h (thermal_of i) = pos 0
variable_least h (line_of l) = pos 0
variable_least h (deficit_of b) = pos 0

abbrev pub greatest_deficit : ℕ
greatest_deficit = 2 ^ 20

abbrev pub variable_greatest : Plants → Variable → ℤ
variable_greatest h (after s) = store_high h s
variable_greatest h (turbine_of j) = (numbered_reservoir h j).turbine
variable_greatest h (spill_of j) = (numbered_reservoir h j).spill
variable_greatest h (thermal_of i) = (thermal h i).high
variable_greatest h (line_of l) = (line h l).high
variable_greatest h (deficit_of b) = pos greatest_deficit

abbrev pub cost_of : Plants → Variable → ℤ
cost_of h (after s) = pos 0
cost_of h (turbine_of j) = pos 0
cost_of h (spill_of j) = (numbered_reservoir h j).spill_cost
cost_of h (thermal_of i) = (thermal h i).cost
cost_of h (line_of l) = pos 0
cost_of h (deficit_of b) = (bus h b).deficit_cost

-- how many variables stand before those of reservoir j
abbrev pub variables_before : Plants → ℕ → ℕ
variables_before h j = length (flat_map (variables_of h) (numbers j))

abbrev pub store_place : Plants → HydroStore → ℕ
store_place h (volume_of j) = variables_before h j
store_place h (way_of j k) = variables_before h j + 2 + k

-- the number of a variable
abbrev pub layout_place : Plants → Variable → ℕ
layout_place h (after s) = store_place h s
layout_place h (turbine_of j) = variables_before h j + 1
layout_place h (spill_of j) = variables_before h j + 2
layout_place h (thermal_of i) = variables_before h (length h.reservoirs) + i
layout_place h (line_of l) = variables_before h (length h.reservoirs) + length h.thermals + l
layout_place h (deficit_of b) = variables_before h (length h.reservoirs) + length h.thermals + length h.lines + b

-- ---- random variables

pub data Chance : Type 0 where
  -- the inflow of reservoir j, and the demand at bus b
  inflow_of : ℕ → Chance
  demand_of : ℕ → Chance

abbrev pub chances : Plants → List Chance
chances h = map inflow_of (all_reservoirs h) ++ map demand_of (all_buses h)

-- one entry of water per reservoir, one of demand per bus
abbrev pub chance_value : List ℤ → List ℤ → Chance → ℤ
chance_value demand water (inflow_of j) = entry water j
chance_value demand water (demand_of b) = entry demand b
