-- Buses, reservoirs, thermals and lines.
use Rattle.std.specs.Prelude.{ℕ, ◌+◌, ℤ, ◌&&◌, List, [], ◌∷◌, ◌++◌, length, map, sum, Option, Some, None, Result, Ok, ⊤, int_le, nat_le, codes, if◌then◌else◌}
use Rattle.serde_json.specs.Data.{Data, Members}
use Rattle.serde_json.specs.Find.{get}
use Rattle.hydro_read.specs.declared.refusal.HydroRefusal.{HydroRefusal}
use Rattle.hydro_read.specs.declared.refusal.HydroKind.TheVariants as kinds
use Rattle.hydro_read.specs.declared.refusal.HydroPart.TheVariants as part_kinds
use Rattle.hydro_read.specs.declared.place.HydroPlace.{HydroPlace}
use Rattle.hydro_read.specs.declared.plants.Bus.{Bus}
use Rattle.hydro_read.specs.declared.plants.Travel.{Travel}
use Rattle.hydro_read.specs.declared.plants.Reservoir.{Reservoir}
use Rattle.hydro_read.specs.declared.plants.Thermal.{Thermal}
use Rattle.hydro_read.specs.declared.plants.Line.{Line}
use Rattle.read_json.specs.Steps.{walk_members}
use Rattle.hydro_read.specs.Steps.{◌>>=◌}
use Rattle.hydro_read.specs.Fields.{hydro_place, hydro_whole, hydro_refuse, hydro_object_at, amount_at, amount_or_zero_at, natural_at}
use Rattle.hydro_read.specs.Names.{hydro_key_at, named_at}

-- ---- buses

unfoldable pub bus_at : List Bus → ℕ → List ℕ → Data → Result (List Bus) HydroRefusal
bus_at found i k d = do
  name ← hydro_key_at (hydro_place part_kinds.Bus i 0) k
  all ← hydro_object_at (hydro_place part_kinds.Bus i 0) d
  cost ← amount_at (hydro_place part_kinds.Bus i 0) (get (codes "deficit_cost") d)
  Ok (found ++ record { name = name; deficit_cost = cost } ∷ [])

unfoldable pub buses_at : Members → Result (List Bus) HydroRefusal
buses_at ms = walk_members bus_at [] 0 ms

-- ---- reservoirs

-- a downstream reservoir, and then the travel to it
unfoldable pub travel_at : HydroPlace → List (List ℕ) → Data → Option Data → Result (Option Travel) HydroRefusal
travel_at p reservoirs d None = Ok None
travel_at p reservoirs d (Some downstream) = do
  target ← named_at p reservoirs (Some downstream)
  stages ← natural_at p 0 3 (get (codes "travel") d)
  Ok (Some (record { target = target; stages = stages }))

-- the low volume is not above the high one, and the initial one is from the one to the other
unfoldable pub levels_at : HydroPlace → ℤ → ℤ → ℤ → Result ⊤ HydroRefusal
levels_at p low high initial = if int_le low high && int_le low initial && int_le initial high then Ok tt else hydro_refuse kinds.Limit p

-- buses and reservoirs are the names of all
unfoldable pub read_reservoir_at : List (List ℕ) → List (List ℕ) → List Reservoir → ℕ → List ℕ → Data → Result (List Reservoir) HydroRefusal
read_reservoir_at buses reservoirs found i k d = do
  name ← hydro_key_at (hydro_place part_kinds.Reservoir i 0) k
  all ← hydro_object_at (hydro_place part_kinds.Reservoir i 0) d
  bus ← named_at (hydro_place part_kinds.Reservoir i 0) buses (get (codes "bus") d)
  low ← amount_at (hydro_place part_kinds.Reservoir i 0) (get (codes "low") d)
  high ← amount_at (hydro_place part_kinds.Reservoir i 0) (get (codes "high") d)
  initial ← amount_at (hydro_place part_kinds.Reservoir i 0) (get (codes "initial") d)
  turbine ← amount_at (hydro_place part_kinds.Reservoir i 0) (get (codes "turbine") d)
  spill ← amount_at (hydro_place part_kinds.Reservoir i 0) (get (codes "spill") d)
  factor ← amount_at (hydro_place part_kinds.Reservoir i 0) (get (codes "factor") d)
  spill_cost ← amount_or_zero_at (hydro_place part_kinds.Reservoir i 0) (get (codes "spill_cost") d)
  downstream ← travel_at (hydro_place part_kinds.Reservoir i 0) reservoirs d (get (codes "downstream") d)
  levels ← levels_at (hydro_place part_kinds.Reservoir i 0) low high initial
  Ok (found ++ record { name = name; bus = bus; low = low; high = high; initial = initial; turbine = turbine; spill = spill; factor = factor; spill_cost = spill_cost; downstream = downstream } ∷ [])

unfoldable pub reservoirs_at : List (List ℕ) → Members → List (List ℕ) → Result (List Reservoir) HydroRefusal
reservoirs_at buses ms reservoirs = walk_members (read_reservoir_at buses reservoirs) [] 0 ms

-- over how many stages water is on its way
abbrev pub travel_stages : Option Travel → ℕ
travel_stages None = 0
travel_stages (Some t) = t.stages

-- as many states as the problem that is made of them has: one per reservoir, and one per stage of travel
unfoldable pub state_count : List Reservoir → ℕ
state_count rs = length rs + sum (map (λ (r : Reservoir). travel_stages r.downstream) rs)

unfoldable pub state_count_at : List Reservoir → Result ⊤ HydroRefusal
state_count_at rs = if nat_le (state_count rs) 50 then Ok tt else hydro_refuse kinds.States hydro_whole

-- ---- thermals

unfoldable pub thermal_at : List (List ℕ) → List Thermal → ℕ → List ℕ → Data → Result (List Thermal) HydroRefusal
thermal_at buses found i k d = do
  name ← hydro_key_at (hydro_place part_kinds.Thermal i 0) k
  all ← hydro_object_at (hydro_place part_kinds.Thermal i 0) d
  bus ← named_at (hydro_place part_kinds.Thermal i 0) buses (get (codes "bus") d)
  high ← amount_at (hydro_place part_kinds.Thermal i 0) (get (codes "high") d)
  cost ← amount_at (hydro_place part_kinds.Thermal i 0) (get (codes "cost") d)
  Ok (found ++ record { name = name; bus = bus; high = high; cost = cost } ∷ [])

unfoldable pub thermals_at : List (List ℕ) → Members → Result (List Thermal) HydroRefusal
thermals_at buses ms = walk_members (thermal_at buses) [] 0 ms

-- ---- lines

unfoldable pub line_at : List (List ℕ) → List Line → ℕ → List ℕ → Data → Result (List Line) HydroRefusal
line_at buses found i k d = do
  name ← hydro_key_at (hydro_place part_kinds.Line i 0) k
  all ← hydro_object_at (hydro_place part_kinds.Line i 0) d
  source ← named_at (hydro_place part_kinds.Line i 0) buses (get (codes "from") d)
  target ← named_at (hydro_place part_kinds.Line i 0) buses (get (codes "to") d)
  high ← amount_at (hydro_place part_kinds.Line i 0) (get (codes "high") d)
  Ok (found ++ record { name = name; source = source; target = target; high = high } ∷ [])

unfoldable pub lines_at : List (List ℕ) → Members → Result (List Line) HydroRefusal
lines_at buses ms = walk_members (line_at buses) [] 0 ms
