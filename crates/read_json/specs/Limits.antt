-- Limits that names and numbers keep, and members and items that may be absent.
use Rattle.std.specs.Prelude.{ℕ, ◌^◌, ℤ, List, Option, Some, None, Result, Ok, nat_le, unsigned_abs, if◌then◌else◌}
use Rattle.serde_json.specs.Data.{Data, Items, no_items, Members, no_members}
use Rattle.problem.specs.declared.refusal.Refusal.{Refusal}
use Rattle.problem.specs.declared.refusal.RefusalKind.TheVariants as kinds
use Rattle.problem.specs.declared.refusal.Place.{Place}
use Rattle.read_json.specs.Steps.{◌>>=◌}
use Rattle.read_json.specs.Fields.{refuse, key_at, string_at, object_at, array_at}

-- a string of at most 128 bytes
unfoldable pub name_at : Place → Data → Result (List ℕ) Refusal
name_at p d = do
  text ← string_at p d
  key_at p text

-- at most 2^40 in absolute value
unfoldable pub limited_at : Place → ℤ → Result ℤ Refusal
limited_at p z = if nat_le (unsigned_abs z) (2 ^ 40) then Ok z else refuse kinds.TooLarge p

-- the number of a known name
unfoldable pub known_at : Place → Option ℕ → Result ℕ Refusal
known_at p None = refuse kinds.UnknownName p
known_at p (Some i) = Ok i

-- an object's members, none where it is absent
unfoldable pub members_at : Place → Option Data → Result Members Refusal
members_at p None = Ok no_members
members_at p (Some d) = object_at p d

-- an array's items, none where it is absent
unfoldable pub items_at : Place → Option Data → Result Items Refusal
items_at p None = Ok no_items
items_at p (Some d) = array_at p d
