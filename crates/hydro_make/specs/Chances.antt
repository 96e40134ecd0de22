-- The number of random variables of a kind.
use Rattle.std.specs.Prelude.{ℕ, length}
use Rattle.hydro_read.specs.declared.plants.Plants.{Plants}
use Rattle.hydro_make.specs.declared.columns.Random.{Random}
use Rattle.hydro_make.specs.declared.columns.Random.TheVariants as random_variable

-- one of each reservoir, and one of each bus
abbrev pub chance_count : Plants → Random → ℕ
chance_count h random_variable.Inflow = length h.reservoirs
chance_count h random_variable.Demand = length h.buses
