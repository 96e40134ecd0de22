-- The terms that the plants of a kind add to a sum.
use Rattle.std.specs.Prelude.{ℕ, [], ◌∷◌, length}
use Rattle.std.specs.List.{flat_map}
use Rattle.base_graph.specs.Paths.{numbers}
use Rattle.hydro_read.specs.declared.plants.Plants.{Plants}
use Rattle.hydro_make.specs.declared.rows.Part.{Part}
use Rattle.hydro_make.specs.declared.rows.Part.TheVariants as part
use Rattle.hydro_make.specs.Stage.{Sum, coming, turbined_at, burned_at, arriving_at, leaving_at, thermal_cost, deficit_cost, spill_cost_at}

-- the number of plants of the kind
abbrev pub count_of : Plants → Part → ℕ
count_of h (part.Coming j) = length h.reservoirs
count_of h (part.Turbined b) = length h.reservoirs
count_of h (part.Burned b) = length h.thermals
count_of h (part.Arriving b) = length h.lines
count_of h (part.Leaving b) = length h.lines
count_of h part.ThermalCost = length h.thermals
count_of h part.DeficitCost = length h.buses
count_of h part.SpillCost = length h.reservoirs

-- the terms of plant i
abbrev pub sum_at : Plants → Part → ℕ → Sum
sum_at h (part.Coming j) i = coming h j i
sum_at h (part.Turbined b) i = turbined_at h b i
sum_at h (part.Burned b) i = burned_at h b i
sum_at h (part.Arriving b) i = arriving_at h b i
sum_at h (part.Leaving b) i = leaving_at h b i
sum_at h part.ThermalCost i = thermal_cost h i ∷ []
sum_at h part.DeficitCost i = deficit_cost h i ∷ []
sum_at h part.SpillCost i = spill_cost_at h i

-- the terms of all of them
abbrev pub part_sum : Plants → Part → Sum
part_sum h p = flat_map (sum_at h p) (numbers (count_of h p))
