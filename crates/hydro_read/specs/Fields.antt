-- Numbers, names, objects and arrays at a place.
use Rattle.std.specs.Prelude.{◌≤ℤ◌, ℕ, ◌^◌, ℤ, pos, ◌&&◌, List, [], ◌∷◌, ◌++◌, Option, Some, None, Result, Ok, Err, ok_or, int_le, unsigned_abs, if◌then◌else◌}
use Rattle.serde_json.specs.Data.{Data, Items, Members}
use Rattle.serde_json.specs.Find.{get_member}
use Rattle.read_json.specs.Steps.{walk_list}
use Rattle.read_json.specs.Values.{spelled, present_or, object_or, array_or, string_or, members_or, integer_or}
use Rattle.hydro_read.specs.declared.refusal.HydroRefusal.{HydroRefusal}
use Rattle.hydro_read.specs.declared.refusal.HydroKind.{HydroKind}
use Rattle.hydro_read.specs.declared.refusal.HydroKind.TheVariants as kinds
use Rattle.hydro_read.specs.declared.refusal.HydroPart.{HydroPart}
use Rattle.hydro_read.specs.declared.refusal.HydroPart.TheVariants as part_kinds
use Rattle.hydro_read.specs.declared.place.HydroPlace.{HydroPlace}
use Rattle.hydro_read.specs.Steps.{◌>>=◌}

abbrev pub hydro_place : HydroPart → ℕ → ℕ → HydroPlace
hydro_place p a b = record { part = p; a = a; b = b }

abbrev pub hydro_whole : HydroPlace
hydro_whole = hydro_place part_kinds.Whole 0 0

-- the refusal of this kind at a place
abbrev pub fault_at : HydroKind → HydroPlace → HydroRefusal
fault_at kind at = record { kind = kind; part = at.part; a = at.a; b = at.b }

abbrev pub hydro_refuse : {A : Type 0} → HydroKind → HydroPlace → Result A HydroRefusal
hydro_refuse kind at = Err (fault_at kind at)

-- the JSON value that the bytes spell
unfoldable pub hydro_json_at : List ℕ → Result Data HydroRefusal
hydro_json_at bytes = ok_or (spelled bytes) (fault_at kinds.NotJson hydro_whole)

-- ---- members that have to be there

unfoldable pub hydro_present_at : {A : Type 0} → HydroPlace → Option A → Result A HydroRefusal
hydro_present_at p o = present_or (fault_at kinds.Shape p) o

unfoldable pub hydro_object_at : HydroPlace → Data → Result Members HydroRefusal
hydro_object_at p d = object_or (fault_at kinds.Shape p) d

unfoldable pub hydro_array_at : HydroPlace → Data → Result Items HydroRefusal
hydro_array_at p d = array_or (fault_at kinds.Shape p) d

unfoldable pub hydro_string_at : HydroPlace → Data → Result (List ℕ) HydroRefusal
hydro_string_at p d = string_or (fault_at kinds.Shape p) d

-- an object's members
unfoldable pub hydro_table_at : HydroPlace → Option Data → Result Members HydroRefusal
hydro_table_at p o = do
  d ← hydro_present_at p o
  hydro_object_at p d

-- an array's items
unfoldable pub hydro_items_at : HydroPlace → Option Data → Result Items HydroRefusal
hydro_items_at p o = do
  d ← hydro_present_at p o
  hydro_array_at p d

-- an object's members, none where it is absent
unfoldable pub hydro_members_at : HydroPlace → Option Data → Result Members HydroRefusal
hydro_members_at p o = members_or (fault_at kinds.Shape p) o

-- ---- numbers

-- the greatest number of a description
abbrev pub greatest_number : ℤ
greatest_number = pos (2 ^ 20)

-- from least to most
pub record Within (least most z : ℤ) : Type 0 where
  pub low : least ≤ℤ z
  pub high : z ≤ℤ most

-- from least to most, else Limit
abbrev pub within_at : HydroPlace → ℤ → ℤ → ℤ → Result ℤ HydroRefusal
within_at p least most z = if int_le least z && int_le z most then Ok z else hydro_refuse kinds.Limit p

-- a whole number from least to most
unfoldable pub hydro_value_at : HydroPlace → ℤ → ℤ → Data → Result ℤ HydroRefusal
hydro_value_at p least most d = do
  z ← integer_or (fault_at kinds.Shape p) (fault_at kinds.NotWhole p) d
  within_at p least most z

unfoldable pub hydro_number_at : HydroPlace → ℤ → ℤ → Option Data → Result ℤ HydroRefusal
hydro_number_at p least most o = do
  d ← hydro_present_at p o
  hydro_value_at p least most d

-- an amount or a cost: a whole number from 0 to 2^20
unfoldable pub amount_at : HydroPlace → Option Data → Result ℤ HydroRefusal
amount_at p o = hydro_number_at p (pos 0) greatest_number o

-- an amount or a cost that may be absent, which is 0 then
unfoldable pub amount_or_zero_at : HydroPlace → Option Data → Result ℤ HydroRefusal
amount_or_zero_at p None = Ok (pos 0)
amount_or_zero_at p (Some d) = hydro_value_at p (pos 0) greatest_number d

-- a weight or a count of stages: a whole number that is not negative
unfoldable pub natural_at : HydroPlace → ℕ → ℕ → Option Data → Result ℕ HydroRefusal
natural_at p least most o = do
  z ← hydro_number_at p (pos least) (pos most) o
  Ok (unsigned_abs z)

-- one more number: the one under the name i
unfoldable pub hydro_entry_at : HydroPlace → ℤ → Members → List ℤ → ℕ → List ℕ → Result (List ℤ) HydroRefusal
hydro_entry_at p least ms found i name = do
  z ← hydro_number_at p least greatest_number (get_member name ms)
  Ok (found ++ z ∷ [])

-- a number under each name, in the order of the names
unfoldable pub hydro_entries_at : HydroPlace → ℤ → List (List ℕ) → Members → Result (List ℤ) HydroRefusal
hydro_entries_at p least names ms = walk_list (hydro_entry_at p least ms) [] 0 names
