-- The variables of a stage's text: states before and after the stage, random variables and decisions. Their names, and the names of states.
use Rattle.std.specs.Prelude.{ℕ, List, [], ◌∷◌, ◌++◌, map, codes}
use Rattle.std.specs.List.{flat_map}
use Rattle.hydro_form.specs.Listed.{digit}
use Rattle.hydro_read.specs.declared.plants.Plants.{Plants}
use Rattle.hydro_make.specs.Layout.{HydroStore, volume_of, way_of, Variable, after, turbine_of, spill_of, thermal_of, line_of, deficit_of, Chance, inflow_of, demand_of, numbered_reservoir, thermal, line, bus, travel, all_reservoirs, all_thermals, all_lines, all_buses, steps}

pub data Column : Type 0 where
  -- a state before the stage
  before : HydroStore → Column
  -- a random variable
  random : Chance → Column
  -- a decision of the stage
  decided : Variable → Column

abbrev pub way_columns : ℕ → ℕ → List Column
way_columns j k = before (way_of j k) ∷ decided (after (way_of j k)) ∷ []

unfoldable pub reservoir_columns : Plants → ℕ → List Column
reservoir_columns h j =
    before (volume_of j) ∷ random (inflow_of j) ∷ decided (after (volume_of j)) ∷ decided (turbine_of j) ∷ decided (spill_of j) ∷ [] ++ flat_map (way_columns j) (steps (travel h j))

abbrev pub bus_columns : ℕ → List Column
bus_columns b = random (demand_of b) ∷ decided (deficit_of b) ∷ []

-- all variables in order
unfoldable pub columns : Plants → List Column
columns h =
    flat_map (reservoir_columns h) (all_reservoirs h) ++ map (λ i. decided (thermal_of i)) (all_thermals h) ++ map (λ l. decided (line_of l)) (all_lines h)
    ++ flat_map bus_columns (all_buses h)

-- ---- names

-- the name of a quantity of a plant or a bus: letters, a colon and the name of the plant or the bus
unfoldable pub named : List ℕ → List ℕ → List ℕ
named letters name = letters ++ 58 ∷ name

-- a letter and the number of stages, of one digit
abbrev pub staged : ℕ → ℕ → List ℕ
staged letter k = letter ∷ digit k ∷ []

-- the state
unfoldable pub state_name : Plants → HydroStore → List ℕ
state_name h (volume_of j) = named (codes "v") (numbered_reservoir h j).name
state_name h (way_of j k) = named (staged 112 k) (numbered_reservoir h j).name

-- the state before a stage
unfoldable pub before_name : Plants → HydroStore → List ℕ
before_name h (volume_of j) = named (codes "i") (numbered_reservoir h j).name
before_name h (way_of j k) = named (staged 97 k) (numbered_reservoir h j).name

-- the state after a stage
unfoldable pub after_name : Plants → HydroStore → List ℕ
after_name h (volume_of j) = named (codes "o") (numbered_reservoir h j).name
after_name h (way_of j k) = named (staged 98 k) (numbered_reservoir h j).name

unfoldable pub variable_name : Plants → Variable → List ℕ
variable_name h (after s) = after_name h s
variable_name h (turbine_of j) = named (codes "q") (numbered_reservoir h j).name
variable_name h (spill_of j) = named (codes "z") (numbered_reservoir h j).name
variable_name h (thermal_of i) = named (codes "g") (thermal h i).name
variable_name h (line_of l) = named (codes "l") (line h l).name
variable_name h (deficit_of b) = named (codes "u") (bus h b).name

unfoldable pub chance_name : Plants → Chance → List ℕ
chance_name h (inflow_of j) = named (codes "w") (numbered_reservoir h j).name
chance_name h (demand_of b) = named (codes "d") (bus h b).name

unfoldable pub column_name : Plants → Column → List ℕ
column_name h (before s) = before_name h s
column_name h (random c) = chance_name h c
column_name h (decided v) = variable_name h v
