-- Names, and what they name.
use Rattle.std.specs.Prelude.{ℕ, Bool, ◌&&◌, ◌||◌, ◌==◌, List, length, Option, Some, None, Result, Ok, nat_lt, nat_le, position, if◌then◌else◌}
use Rattle.std.specs.Char.{is_ascii_alphanumeric}
use Rattle.std.specs.List.{list_all}
use Rattle.std.specs.Str.{bytes_eq}
use Rattle.serde_json.specs.Data.{Data}
use Rattle.hydro_read.specs.declared.refusal.HydroRefusal.{HydroRefusal}
use Rattle.hydro_read.specs.declared.refusal.HydroKind.TheVariants as kinds
use Rattle.hydro_read.specs.declared.place.HydroPlace.{HydroPlace}
use Rattle.hydro_read.specs.Steps.{◌>>=◌}
use Rattle.hydro_read.specs.Fields.{hydro_refuse, hydro_present_at, hydro_string_at}

-- a letter or digit of ASCII, `_` (95) or `-` (45)
abbrev pub is_name_byte : ℕ → Bool
is_name_byte b = is_ascii_alphanumeric b || (b == 95) || (b == 45)

-- 1 to 16 letters, digits, `_` or `-`
unfoldable pub is_hydro_name : List ℕ → Bool
is_hydro_name k = nat_lt 0 (length k) && nat_le (length k) 16 && list_all is_name_byte k

-- a key of the form of names
unfoldable pub hydro_key_at : HydroPlace → List ℕ → Result (List ℕ) HydroRefusal
hydro_key_at p k = if is_hydro_name k then Ok k else hydro_refuse kinds.Limit p

-- the number of a known name
unfoldable pub hydro_known_at : HydroPlace → Option ℕ → Result ℕ HydroRefusal
hydro_known_at p None = hydro_refuse kinds.UnknownName p
hydro_known_at p (Some i) = Ok i

-- a string that is one of the names; its number
unfoldable pub named_at : HydroPlace → List (List ℕ) → Option Data → Result ℕ HydroRefusal
named_at p names o = do
  d ← hydro_present_at p o
  text ← hydro_string_at p d
  hydro_known_at p (position (bytes_eq text) names)
