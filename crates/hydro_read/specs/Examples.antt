-- Small descriptions, as JSON values.
use Rattle.std.specs.Prelude.{ℕ, pos, negsuc, List, [], ◌∷◌, Some, None, codes}
use Rattle.serde_json.specs.Data.{unsigned, negative, Data, number, string, array, object, Items, no_items, item, Members, no_members, member}
use Rattle.hydro_read.specs.declared.plants.Plants.{Plants}

abbrev members_of : List (List ℕ × Data) → Members
members_of [] = no_members
members_of (m ∷ ms) = member m.0 m.1 (members_of ms)

abbrev items_of : List Data → Items
items_of [] = no_items
items_of (d ∷ ds) = item d (items_of ds)

-- an object whose keys rise in byte order
abbrev pub object_of : List (List ℕ × Data) → Data
object_of ms = object (members_of ms)

abbrev pub array_of : List Data → Data
array_of ds = array (items_of ds)

abbrev pub natural_example : ℕ → Data
natural_example n = number (unsigned n)

abbrev pub text : List ℕ → Data
text s = string s

-- one bus
abbrev buses_example : Data
buses_example = object_of ((codes "b", object_of ((codes "deficit_cost", natural_example 200) ∷ [])) ∷ [])

-- one bus with one thermal, one stage and one inflow, and no reservoirs
abbrev pub one_stage_example : Data
one_stage_example = object_of (
    (codes "buses", buses_example)
    ∷ (codes "stages", array_of (object_of ((codes "demand", object_of ((codes "b", natural_example 9) ∷ [])) ∷ (codes "inflows", array_of (object_of ((codes "inflow", object_of []) ∷ (codes "weight", natural_example 1) ∷ []) ∷ [])) ∷ []) ∷ []))
    ∷ (codes "thermals", object_of ((codes "t", object_of ((codes "bus", text (codes "b")) ∷ (codes "cost", natural_example 5) ∷ (codes "high", natural_example 20) ∷ [])) ∷ []))
    ∷ [])

abbrev pub one_stage_plants : Plants
one_stage_plants = record {
  buses = record { name = codes "b"; deficit_cost = pos 200 } ∷ [];
  reservoirs = [];
  thermals = record { name = codes "t"; bus = 0; high = pos 20; cost = pos 5 } ∷ [];
  lines = [];
  stages = record { demand = pos 9 ∷ []; inflows = record { weight = 1; water = [] } ∷ [] } ∷ [];
}

-- an inflow of this weight to the reservoirs `a` and `b`
abbrev inflow_example : ℕ → Data → Data → Data
inflow_example weight a b = object_of ((codes "inflow", object_of ((codes "a", a) ∷ (codes "b", b) ∷ [])) ∷ (codes "weight", natural_example weight) ∷ [])

-- reservoir `a` at a bus of this name and of this low volume, which leads to reservoir `b`, where spill costs, in 2 stages, and two inflows, the first
-- of this weight
abbrev pub travel_example : List ℕ → ℕ → ℕ → Data
travel_example bus low weight = object_of (
    (codes "buses", buses_example)
    ∷ (
      codes "reservoirs",
      object_of ((
        codes "a",
        object_of (
            (codes "bus", text bus) ∷ (codes "downstream", text (codes "b")) ∷ (codes "factor", natural_example 2) ∷ (codes "high", natural_example 7) ∷ (codes "initial", natural_example 7) ∷ (codes "low", natural_example low)
            ∷ (codes "spill", natural_example 6) ∷ (codes "travel", natural_example 2) ∷ (codes "turbine", natural_example 5) ∷ []),
      )
          ∷ (
            codes "b",
            object_of (
                (codes "bus", text (codes "b")) ∷ (codes "factor", natural_example 1) ∷ (codes "high", natural_example 10) ∷ (codes "initial", natural_example 4) ∷ (codes "low", natural_example 0)
                ∷ (codes "spill", natural_example 9) ∷ (codes "spill_cost", natural_example 4) ∷ (codes "turbine", natural_example 8) ∷ []),
          )
          ∷ []),
    )
    ∷ (
      codes "stages",
      array_of (object_of (
          (codes "demand", object_of ((codes "b", natural_example 9) ∷ []))
          ∷ (codes "inflows", array_of (inflow_example weight (number (negative (negsuc 0))) (natural_example 3) ∷ inflow_example 1 (natural_example 0) (natural_example 2) ∷ [])) ∷ []) ∷ []),
    )
    ∷ [])

abbrev pub travel_plants : Plants
travel_plants = record {
  buses = record { name = codes "b"; deficit_cost = pos 200 } ∷ [];
  reservoirs =
      record { name = codes "a"; bus = 0; low = pos 1; high = pos 7; initial = pos 7; turbine = pos 5; spill = pos 6; factor = pos 2; spill_cost = pos 0; downstream = Some (record { target = 1; stages = 2 }) }
      ∷ record { name = codes "b"; bus = 0; low = pos 0; high = pos 10; initial = pos 4; turbine = pos 8; spill = pos 9; factor = pos 1; spill_cost = pos 4; downstream = None } ∷ [];
  thermals = [];
  lines = [];
  stages = record { demand = pos 9 ∷ []; inflows = record { weight = 65534; water = negsuc 0 ∷ pos 3 ∷ [] } ∷ record { weight = 1; water = pos 0 ∷ pos 2 ∷ [] } ∷ [] } ∷ [];
}
