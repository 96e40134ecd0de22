-- Parts of a JSON value, each or else the refusal that the reader of a format gives.
use Rattle.std.specs.Prelude.{ℕ, ℤ, List, Option, Some, None, Result, Ok, ok_or, if◌then◌else◌}
use Rattle.std.specs.Str.{is_utf8}
use Rattle.serde_json.specs.Data.{Data, Items, Members, no_members}
use Rattle.serde_json.specs.Find.{as_number, as_integer, as_str, as_array, as_object}
use Rattle.serde_json.specs.Read.{read}
use Rattle.read_json.specs.Steps.{◌>>=◌}

-- the JSON value that the bytes spell
unfoldable pub spelled : List ℕ → Option Data
spelled bytes = if is_utf8 bytes then read bytes else None

-- a part that has to be there
unfoldable pub present_or : {A E : Type 0} → E → Option A → Result A E
present_or refusal o = ok_or o refusal

unfoldable pub object_or : {E : Type 0} → E → Data → Result Members E
object_or refusal d = ok_or (as_object d) refusal

unfoldable pub array_or : {E : Type 0} → E → Data → Result Items E
array_or refusal d = ok_or (as_array d) refusal

unfoldable pub string_or : {E : Type 0} → E → Data → Result (List ℕ) E
string_or refusal d = ok_or (as_str d) refusal

-- an object's members, none where it is absent
unfoldable pub members_or : {E : Type 0} → E → Option Data → Result Members E
members_or refusal None = Ok no_members
members_or refusal (Some d) = object_or refusal d

-- a whole number: the first refusal where there is no number, the second where it is not whole
unfoldable pub integer_or : {E : Type 0} → E → E → Data → Result ℤ E
integer_or shape not_whole d = do
  n ← ok_or (as_number d) shape
  ok_or (as_integer n) not_whole
