-- The text of the nodes: one for each stage.
use Rattle.std.specs.Prelude.{ℕ, suc, ◌/◌, ℤ, List, [], ◌∷◌, ◌++◌, length, map, get_or, codes, nat_lt, if◌then◌else◌}
use Rattle.serde_json.specs.Data.{Data, Members, no_members, member}
use Rattle.hydro_form.specs.Listed.{members_from, members_by, whole_data, integer, digit}
use Rattle.hydro_form.specs.Nodes.{realization_form, node_form}
use Rattle.hydro_read.specs.declared.plants.Inflow.{Inflow}
use Rattle.hydro_read.specs.declared.plants.Stage.{Stage}
use Rattle.hydro_read.specs.declared.plants.Plants.{Plants}
use Rattle.hydro_make.specs.Layout.{inflow_of, demand_of, all_reservoirs, all_buses, chance_value}
use Rattle.hydro_make.specs.Columns.{chance_name}

-- the node m: the stage with three digits, from 001
unfoldable pub node_name : ℕ → List ℕ
node_name m = codes "s" ++ digit (suc m / 100) ∷ digit (suc m / 10) ∷ digit (suc m) ∷ []

-- the demands by bus, then the inflows by reservoir, since `d` is before `w`
unfoldable pub support : Plants → List ℤ → List ℤ → Members
support h demand water = members_by (chance_name h) (λ c. integer (chance_value demand water c)) (map demand_of (all_buses h) ++ map inflow_of (all_reservoirs h))

unfoldable pub node_realization : Plants → List ℤ → Inflow → Data
node_realization h demand i = realization_form i.weight (support h demand i.water)

-- the node m, none after the last one
unfoldable pub successor_to : Plants → ℕ → Members
successor_to h m = if nat_lt m (length h.stages) then member (node_name m) (whole_data 1) no_members else no_members

abbrev pub hydro_stage : Plants → ℕ → Stage
hydro_stage h m = get_or h.stages m (record { demand = []; inflows = [] })

-- the node m, which the next one follows
unfoldable pub node : Plants → ℕ → Data
node h m = node_form (map (node_realization h (hydro_stage h m).demand) (hydro_stage h m).inflows) (successor_to h (suc m))

unfoldable pub nodes : Plants → Members
nodes h = members_from node_name (node h) 0 (length h.stages)
