-- Numbers, names, texts, objects and arrays at a place.
use Rattle.std.specs.Prelude.{ℕ, ◌^◌, ℤ, pos, List, length, [], ◌∷◌, Option, Some, None, Result, Ok, Err, ok_or, nat_le, unsigned_abs, int_lt, if◌then◌else◌}
use Rattle.std.specs.Str.{is_utf8}
use Rattle.serde_json.specs.Data.{Num, unsigned, negative, float, Data, Items, Members, no_members, member}
use Rattle.serde_json.specs.Find.{as_number, as_str, as_array, as_object}
use Rattle.serde_json.specs.Read.{read}
use Rattle.problem.specs.declared.refusal.Refusal.{Refusal}
use Rattle.problem.specs.declared.refusal.RefusalKind.{RefusalKind}
use Rattle.problem.specs.declared.refusal.RefusalKind.TheVariants as kinds
use Rattle.problem.specs.declared.refusal.Part.{Part}
use Rattle.problem.specs.declared.refusal.Part.TheVariants as part_kinds
use Rattle.problem.specs.declared.refusal.Place.{Place}
use Rattle.read_json.specs.Steps.{◌>>=◌}

abbrev pub place : Part → ℕ → ℕ → ℕ → Place
place p a b c = record { part = p; a = a; b = b; c = c }

abbrev pub whole : Place
whole = place part_kinds.Whole 0 0 0

-- the refusal of this kind at a place
abbrev pub fault_at : RefusalKind → Place → Refusal
fault_at kind at = record { kind = kind; place = at }

abbrev pub refuse : {A : Type 0} → RefusalKind → Place → Result A Refusal
refuse kind at = Err (fault_at kind at)

abbrev pub number_at : Place → Num → Result ℤ Refusal
number_at p (unsigned n) = if nat_le n (2 ^ 40) then Ok (pos n) else refuse kinds.TooLarge p
number_at p (negative z) = if nat_le (unsigned_abs z) (2 ^ 40) then Ok z else refuse kinds.TooLarge p
number_at p (float x) = refuse kinds.NotWhole p

unfoldable pub whole_at : Place → Data → Result ℤ Refusal
whole_at p d = do
  n ← ok_or (as_number d) (fault_at kinds.Shape p)
  number_at p n

unfoldable pub key_at : Place → List ℕ → Result (List ℕ) Refusal
key_at p k = if nat_le (length k) 128 then Ok k else refuse kinds.TooLarge p

unfoldable pub present_at : {A : Type 0} → Place → Option A → Result A Refusal
present_at p o = ok_or o (fault_at kinds.Shape p)

unfoldable pub object_at : Place → Data → Result Members Refusal
object_at p d = ok_or (as_object d) (fault_at kinds.Shape p)

unfoldable pub array_at : Place → Data → Result Items Refusal
array_at p d = ok_or (as_array d) (fault_at kinds.Shape p)

unfoldable pub string_at : Place → Data → Result (List ℕ) Refusal
string_at p d = ok_or (as_str d) (fault_at kinds.Shape p)

-- a whole number of at least 1
unfoldable pub weight_at : Place → Data → Result ℤ Refusal
weight_at p d = do
  w ← whole_at p d
  if int_lt w (pos 1) then refuse kinds.Weight p else Ok w

abbrev pub json_or : Option Data → Result Data Refusal
json_or None = refuse kinds.NotJson whole
json_or (Some d) = Ok d

-- the JSON value that the bytes spell
unfoldable pub json_at : List ℕ → Result Data Refusal
json_at bytes = if is_utf8 bytes then json_or (read bytes) else refuse kinds.NotJson whole

-- the keys of an object, in their order
abbrev pub keys_of : Members → List (List ℕ)
keys_of no_members = []
keys_of (member k d ms) = k ∷ keys_of ms
