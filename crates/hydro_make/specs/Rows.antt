-- The rows of a stage: the water balance of each reservoir, the water under way, and the energy balance of each bus.
use Rattle.std.specs.Prelude.{ℕ, suc, ℤ, pos, ◌*ℤ◌, ◌-ℤ◌, neg_ℤ, List, ◌++◌, map, Some}
use Rattle.std.specs.List.{flat_map}
use Rattle.base_num.specs.Sums.{same_place}
use Rattle.problem.specs.declared.parts.Row.{Row}
use Rattle.hydro_make.specs.Terms.{terms_from_place}
use Rattle.hydro_read.specs.declared.plants.Plants.{Plants}
use Rattle.hydro_make.specs.Layout.{HydroStore, volume_of, way_of, Variable, after, turbine_of, spill_of, thermal_of, line_of, deficit_of, Chance, inflow_of, demand_of, numbered_reservoir, thermal, line, travel, leads, all_reservoirs, all_buses, steps, stores, hydro_variables, chances}

-- the sum with these factors is 0
abbrev pub row_with : Plants → (Variable → ℤ) → (HydroStore → ℤ) → (Chance → ℤ) → Row
row_with h a b g = record {
  low = Some (pos 0);
  high = Some (pos 0);
  decisions = terms_from_place 0 (map a (hydro_variables h));
  states = terms_from_place 0 (map b (stores h));
  randoms = terms_from_place 0 (map g (chances h));
}

-- ---- water of reservoir j: o + q + z - i - w, less the q and z of reservoirs that lead to j at once, less the water that arrives from the
-- others

-- 1 where the water of reservoir i is in reservoir j at once, else 0
abbrev pub leads_at_once : Plants → ℕ → ℕ → ℤ
leads_at_once h i j = same_place 0 (travel h i) *ℤ leads h i j

abbrev pub water_after : ℕ → HydroStore → ℤ
water_after j (volume_of i) = same_place j i
water_after j (way_of i k) = pos 0

abbrev pub water_decided : Plants → ℕ → Variable → ℤ
water_decided h j (after s) = water_after j s
water_decided h j (turbine_of i) = same_place j i -ℤ leads_at_once h i j
water_decided h j (spill_of i) = same_place j i -ℤ leads_at_once h i j
water_decided h j (thermal_of i) = pos 0
water_decided h j (line_of l) = pos 0
water_decided h j (deficit_of b) = pos 0

abbrev pub water_before : Plants → ℕ → HydroStore → ℤ
water_before h j (volume_of i) = neg_ℤ (same_place j i)
water_before h j (way_of i k) = neg_ℤ (same_place 1 k *ℤ leads h i j)

abbrev pub water_flowing : ℕ → Chance → ℤ
water_flowing j (inflow_of i) = neg_ℤ (same_place j i)
water_flowing j (demand_of b) = pos 0

abbrev pub water_row : Plants → ℕ → Row
water_row h j = row_with h (water_decided h j) (water_before h j) (water_flowing j)

-- ---- water of reservoir j under way: the water k stages away was k + 1 away before, or left in this stage

abbrev pub way_after : ℕ → ℕ → HydroStore → ℤ
way_after j k (volume_of i) = pos 0
way_after j k (way_of i m) = same_place j i *ℤ same_place k m

-- water that left in this stage is as many stages away as it travels
abbrev pub way_decided : Plants → ℕ → ℕ → Variable → ℤ
way_decided h j k (after s) = way_after j k s
way_decided h j k (turbine_of i) = neg_ℤ (same_place k (travel h j) *ℤ same_place j i)
way_decided h j k (spill_of i) = neg_ℤ (same_place k (travel h j) *ℤ same_place j i)
way_decided h j k (thermal_of i) = pos 0
way_decided h j k (line_of l) = pos 0
way_decided h j k (deficit_of b) = pos 0

-- none is further away than it travels
abbrev pub way_before : ℕ → ℕ → HydroStore → ℤ
way_before j k (volume_of i) = pos 0
way_before j k (way_of i m) = neg_ℤ (same_place j i *ℤ same_place (suc k) m)

abbrev pub no_chance : Chance → ℤ
no_chance c = pos 0

abbrev pub way_row : Plants → ℕ → ℕ → Row
way_row h j k = row_with h (way_decided h j k) (way_before j k) no_chance

-- ---- energy at bus b: turbines, thermals, incoming lines less outgoing ones, and deficit, less the demand

abbrev pub bus_decided : Plants → ℕ → Variable → ℤ
bus_decided h b (after s) = pos 0
bus_decided h b (turbine_of j) = same_place (numbered_reservoir h j).bus b *ℤ (numbered_reservoir h j).factor
bus_decided h b (spill_of j) = pos 0
bus_decided h b (thermal_of i) = same_place (thermal h i).bus b
bus_decided h b (line_of l) = same_place (line h l).target b -ℤ same_place (line h l).source b
bus_decided h b (deficit_of c) = same_place b c

abbrev pub no_store : HydroStore → ℤ
no_store s = pos 0

abbrev pub bus_asked : ℕ → Chance → ℤ
bus_asked b (inflow_of j) = pos 0
bus_asked b (demand_of c) = neg_ℤ (same_place b c)

abbrev pub bus_row : Plants → ℕ → Row
bus_row h b = row_with h (bus_decided h b) no_store (bus_asked b)

-- ---- all rows

abbrev pub way_rows : Plants → ℕ → List Row
way_rows h j = map (way_row h j) (steps (travel h j))

abbrev pub all_rows : Plants → List Row
all_rows h = map (water_row h) (all_reservoirs h) ++ flat_map (way_rows h) (all_reservoirs h) ++ map (bus_row h) (all_buses h)
