-- Facts about a description on which the laws rest.
use Rattle.std.proofs.Common.{◌≡◌, ℕ, zero, suc, ◌≤◌, ℤ, pos, List, [], ◌∷◌, ◌++◌, length, map, get_or, Option, None, Some, IfSome, refl, sym, ap₂, ◌∙◌, arith}
use Rattle.std.proofs.lemmas.List.{map-append}
use Rattle.std.proofs.lemmas.List.FromFn.{fill_by_all}
use Rattle.base_num.specs.Sums.{entry}
use Rattle.std.specs.List.{AllByRecursion}
use Rattle.hydro_read.specs.declared.plants.Inflow.{Inflow}
use Rattle.hydro_read.specs.declared.plants.Reservoir.{Reservoir}
use Rattle.hydro_read.specs.declared.plants.Travel.{Travel}
use Rattle.hydro_read.specs.declared.plants.Plants.{Plants}
use Rattle.hydro_read.specs.Described.{IsTravel, IsReservoir, IsPlants}
use Rattle.hydro_make.specs.Layout.{travel_of, travel, inflow_of, demand_of, chance_value, all_reservoirs, all_buses}
use Rattle.hydro_make.specs.Made.{realization}
use Rattle.hydro_make.proofs.Places.{map_map}

few : (n : ℕ) (o : Option Travel) → IfSome o (IsTravel n) → travel_of o ≤ 3
few n None i = omega arith
few n (Some t) i = i.stages

few_at : (m n : ℕ) (rs : List Reservoir) (d : Reservoir) (j : ℕ) → AllByRecursion (IsReservoir m n) rs → travel_of d.downstream ≤ 3 → travel_of (get_or rs j d).downstream ≤ 3
few_at m n [] d j a z = z
few_at m n (r ∷ rs) d zero a z = few n r.downstream a.0.downstream
few_at m n (r ∷ rs) d (suc j) a z = few_at m n rs d j a.1 z

-- no water travels for more than three stages
pub short : (h : Plants) → IsPlants h → (j : ℕ) → travel h j ≤ 3
short h i j = few_at _ _ h.reservoirs _ j i.reservoirs (omega arith)

-- the random variables of a stage are its inflow's water, and its demand
pub values_are : (h : Plants) (demand : List ℤ) (i : Inflow) → length i.water ≡ length h.reservoirs → length demand ≡ length h.buses → (realization h demand i).values ≡ i.water ++ demand
values_are h demand i w d =
    map-append (chance_value demand i.water) (map inflow_of (all_reservoirs h)) (map demand_of (all_buses h))
    ∙ ap₂ ◌++◌ (map_map (chance_value demand i.water) inflow_of (all_reservoirs h) ∙ sym (fill_by_all (entry i.water) i.water (length h.reservoirs) (pos 0) w (λ k p. refl)))
    (map_map (chance_value demand i.water) demand_of (all_buses h) ∙ sym (fill_by_all (entry demand) demand (length h.buses) (pos 0) d (λ k p. refl)))
