-- The sides between which a function stands.
use Rattle.std.specs.Prelude.{ℕ, ℤ, ◌-ℤ◌, List, Option, Some, None, Bool, false, int_lt, Result, Ok, codes, if◌then◌else◌}
use Rattle.std.specs.Int.{int_min, int_max}
use Rattle.std.specs.Str.{bytes_eq}
use Rattle.serde_json.specs.Data.{Data}
use Rattle.serde_json.specs.Find.{get}
use Rattle.problem.specs.declared.refusal.Refusal.{Refusal}
use Rattle.problem.specs.declared.refusal.RefusalKind.TheVariants as kinds
use Rattle.problem.specs.declared.refusal.Place.{Place}
use Rattle.read_json.specs.Steps.{◌>>=◌}
use Rattle.read_json.specs.Fields.{refuse, present_at, string_at, whole_at}
use Rattle.read_json.specs.Limits.{limited_at}
use Rattle.read_stage.specs.declared.sides.RowSides.{RowSides}

-- neither side is there
abbrev pub no_sides : RowSides
no_sides = record { low = None; high = None }

-- the lower side is above the upper one
abbrev pub is_crossed : Option ℤ → Option ℤ → Bool
is_crossed None high = false
is_crossed (Some l) None = false
is_crossed (Some l) (Some h) = int_lt h l

unfoldable pub ordered_at : Place → RowSides → Result RowSides Refusal
ordered_at at sides = if is_crossed sides.low sides.high then refuse kinds.EmptyBox at else Ok sides

-- the whole number under a key
unfoldable pub side_at : Place → List ℕ → Data → Result ℤ Refusal
side_at at key d = do
  inner ← present_at at (get key d)
  whole_at at inner

unfoldable pub equal_at : Place → Data → Result RowSides Refusal
equal_at at d = do
  value ← side_at at (codes "value") d
  Ok (record { low = Some value; high = Some value })

unfoldable pub greater_at : Place → Data → Result RowSides Refusal
greater_at at d = do
  lower ← side_at at (codes "lower") d
  Ok (record { low = Some lower; high = None })

unfoldable pub less_at : Place → Data → Result RowSides Refusal
less_at at d = do
  upper ← side_at at (codes "upper") d
  Ok (record { low = None; high = Some upper })

unfoldable pub interval_at : Place → Data → Result RowSides Refusal
interval_at at d = do
  lower ← side_at at (codes "lower") d
  upper ← side_at at (codes "upper") d
  ordered_at at (record { low = Some lower; high = Some upper })

unfoldable pub set_at : Place → Data → Result RowSides Refusal
set_at at d = do
  inner ← present_at at (get (codes "type") d)
  kind ← string_at at inner
  if bytes_eq kind (codes "EqualTo") then equal_at at d
      else (if bytes_eq kind (codes "GreaterThan") then greater_at at d
      else (if bytes_eq kind (codes "LessThan") then less_at at d
      else (if bytes_eq kind (codes "Interval") then interval_at at d
      else refuse kinds.Unsupported at)))

abbrev pub greater_of : Option ℤ → Option ℤ → Option ℤ
greater_of None b = b
greater_of (Some a) None = Some a
greater_of (Some a) (Some b) = Some (int_max a b)

abbrev pub lesser_of : Option ℤ → Option ℤ → Option ℤ
lesser_of None b = b
lesser_of (Some a) None = Some a
lesser_of (Some a) (Some b) = Some (int_min a b)

-- the intersection of both
abbrev pub intersection : RowSides → RowSides → RowSides
intersection a b = record { low = greater_of a.low b.low; high = lesser_of a.high b.high }

-- a side less the constant, within the limit
unfoldable pub shifted_side_at : Place → ℤ → Option ℤ → Result (Option ℤ) Refusal
shifted_side_at at constant None = Ok None
shifted_side_at at constant (Some side) = do
  tail ← limited_at at (side -ℤ constant)
  Ok (Some tail)

unfoldable pub shifted_at : Place → ℤ → RowSides → Result RowSides Refusal
shifted_at at constant sides = do
  low ← shifted_side_at at constant sides.low
  high ← shifted_side_at at constant sides.high
  Ok (record { low = low; high = high })
