-- The variables of the definitions for which the code's columns stand.
use Rattle.std.specs.Prelude.{ℕ}
use Rattle.hydro_make.specs.declared.columns.Store as declared_store
use Rattle.hydro_make.specs.declared.columns.Store.TheVariants as store
use Rattle.hydro_make.specs.declared.columns.Column as declared_column
use Rattle.hydro_make.specs.declared.columns.Column.TheVariants as column
use Rattle.hydro_make.specs.declared.columns.Random as declared_random
use Rattle.hydro_make.specs.declared.columns.Random.TheVariants as random_variable
use Rattle.hydro_make.specs.Layout.{HydroStore, volume_of, way_of, after, turbine_of, spill_of, thermal_of, line_of, deficit_of, Chance, inflow_of, demand_of}
use Rattle.hydro_make.specs.Columns.{Column, before, random, decided}

abbrev pub seen_store : declared_store.Store → HydroStore
seen_store (store.Volume j) = volume_of j
seen_store (store.Way j k) = way_of j k

abbrev pub seen_column : declared_column.Column → Column
seen_column (column.Before s) = before (seen_store s)
seen_column (column.After s) = decided (after (seen_store s))
seen_column (column.Inflow j) = random (inflow_of j)
seen_column (column.Demand b) = random (demand_of b)
seen_column (column.Turbine j) = decided (turbine_of j)
seen_column (column.Spill j) = decided (spill_of j)
seen_column (column.Thermal i) = decided (thermal_of i)
seen_column (column.Line l) = decided (line_of l)
seen_column (column.Deficit b) = decided (deficit_of b)

-- of the reservoir or the bus of a number
abbrev pub chance_of : declared_random.Random → ℕ → Chance
chance_of random_variable.Inflow j = inflow_of j
chance_of random_variable.Demand b = demand_of b
