-- Stages, each with its demand and its inflows.
use Rattle.std.specs.Prelude.{ℕ, suc, ◌^◌, ℤ, pos, ◌-ℤ◌, ◌&&◌, List, [], ◌∷◌, ◌++◌, map, sum, Result, Ok, ⊤, nat_le, nat_lt, codes, if◌then◌else◌}
use Rattle.serde_json.specs.Data.{Data, Items}
use Rattle.serde_json.specs.Events.{items_len}
use Rattle.serde_json.specs.Find.{get}
use Rattle.hydro_read.specs.declared.refusal.HydroRefusal.{HydroRefusal}
use Rattle.hydro_read.specs.declared.refusal.HydroKind.TheVariants as kinds
use Rattle.hydro_read.specs.declared.refusal.HydroPart.TheVariants as part_kinds
use Rattle.hydro_read.specs.declared.place.HydroPlace.{HydroPlace}
use Rattle.hydro_read.specs.declared.plants.Inflow.{Inflow}
use Rattle.hydro_read.specs.declared.plants.Stage.{Stage}
use Rattle.read_json.specs.Steps.{walk_items}
use Rattle.hydro_read.specs.Steps.{◌>>=◌}
use Rattle.hydro_read.specs.Fields.{hydro_place, hydro_refuse, hydro_object_at, hydro_table_at, hydro_items_at, natural_at, hydro_entries_at, greatest_number}

-- the least inflow of water
abbrev pub least_inflow : ℤ
least_inflow = pos 0 -ℤ greatest_number

-- inflow k of stage t
unfoldable pub inflow_at : List (List ℕ) → ℕ → List Inflow → ℕ → Data → Result (List Inflow) HydroRefusal
inflow_at reservoirs t found k d = do
  all ← hydro_object_at (hydro_place part_kinds.Stage t (suc k)) d
  weight ← natural_at (hydro_place part_kinds.Stage t (suc k)) 1 (2 ^ 20) (get (codes "weight") d)
  inflow ← hydro_table_at (hydro_place part_kinds.Stage t (suc k)) (get (codes "inflow") d)
  water ← hydro_entries_at (hydro_place part_kinds.Stage t (suc k)) least_inflow reservoirs inflow
  Ok (found ++ record { weight = weight; water = water } ∷ [])

unfoldable pub inflows_at : List (List ℕ) → ℕ → Items → Result (List Inflow) HydroRefusal
inflows_at reservoirs t ds = walk_items (inflow_at reservoirs t) [] 0 ds

-- 1 to 100 inflows
unfoldable pub inflow_count_at : HydroPlace → ℕ → Result ⊤ HydroRefusal
inflow_count_at p count = if nat_lt 0 count && nat_le count 100 then Ok tt else hydro_refuse kinds.Limit p

-- the weights of all inflows together
unfoldable pub total_inflow_weight : List Inflow → ℕ
total_inflow_weight inflows = sum (map (λ (f : Inflow). f.weight) inflows)

unfoldable pub total_at : HydroPlace → List Inflow → Result ⊤ HydroRefusal
total_at p inflows = if nat_le (total_inflow_weight inflows) 65535 then Ok tt else hydro_refuse kinds.Limit p

-- buses and reservoirs are the names of all
unfoldable pub hydro_stage_at : List (List ℕ) → List (List ℕ) → List Stage → ℕ → Data → Result (List Stage) HydroRefusal
hydro_stage_at buses reservoirs found t d = do
  all ← hydro_object_at (hydro_place part_kinds.Stage t 0) d
  demands ← hydro_table_at (hydro_place part_kinds.Stage t 0) (get (codes "demand") d)
  items ← hydro_items_at (hydro_place part_kinds.Stage t 0) (get (codes "inflows") d)
  counted ← inflow_count_at (hydro_place part_kinds.Stage t 0) (items_len items)
  demand ← hydro_entries_at (hydro_place part_kinds.Stage t 0) (pos 0) buses demands
  inflows ← inflows_at reservoirs t items
  total ← total_at (hydro_place part_kinds.Stage t 0) inflows
  Ok (found ++ record { demand = demand; inflows = inflows } ∷ [])

unfoldable pub stages_at : List (List ℕ) → List (List ℕ) → Items → Result (List Stage) HydroRefusal
stages_at buses reservoirs ds = walk_items (hydro_stage_at buses reservoirs) [] 0 ds
