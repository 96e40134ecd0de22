-- The constraints: bounds of variables, and rows.
use Rattle.std.specs.Prelude.{ℕ, List, [], ◌∷◌, ◌++◌, length, replicate, slice_get, slice_set, Option, Some, None, Result, Ok, codes, if◌then◌else◌}
use Rattle.serde_json.specs.Data.{Data, Items}
use Rattle.serde_json.specs.Find.{get}
use Rattle.problem.specs.declared.refusal.Refusal.{Refusal}
use Rattle.problem.specs.declared.refusal.Part.TheVariants as part_kinds
use Rattle.problem.specs.declared.refusal.Place.{Place}
use Rattle.read_json.specs.Steps.{◌>>=◌, walk_items}
use Rattle.read_json.specs.Fields.{place, present_at, object_at}
use Rattle.read_stage.specs.declared.role.Role.{Role}
use Rattle.read_stage.specs.declared.variables.Variables.{Variables}
use Rattle.read_stage.specs.declared.function.Site.TheVariants.{Constraint}
use Rattle.read_stage.specs.declared.function.Function.{Function}
use Rattle.read_stage.specs.declared.sides.RowSides.{RowSides}
use Rattle.read_stage.specs.declared.constraint.Constraints.{Constraints}
use Rattle.read_stage.specs.Roles.{is_random}
use Rattle.read_stage.specs.Function.{function_at}
use Rattle.read_stage.specs.Sides.{no_sides, intersection, set_at, shifted_at}
use Rattle.read_stage.specs.Rows.{row_of}

-- the sides of the variable v are narrowed
abbrev pub narrowed_by : Option RowSides → List RowSides → ℕ → RowSides → List RowSides
narrowed_by None bounds v sides = bounds
narrowed_by (Some before) bounds v sides = slice_set bounds v (intersection before sides)

unfoldable pub narrowed : List RowSides → ℕ → RowSides → List RowSides
narrowed bounds v sides = narrowed_by (slice_get bounds v) bounds v sides

-- the decision or incoming state that a constraint on this function bounds
unfoldable pub bounded : List Role → Option ℕ → Option ℕ
bounded roles None = None
bounded roles (Some v) = if is_random (slice_get roles v) then None else Some v

-- a bound is intersected with the earlier ones; all else is a row
unfoldable pub joined_at : Variables → Place → Constraints → Function → RowSides → Option ℕ → Result Constraints Refusal
joined_at vars at found f sides (Some v) = Ok (record found { bounds = narrowed found.bounds v sides })
joined_at vars at found f sides None = do
  shifted ← shifted_at at f.constant sides
  Ok (record found { rows = found.rows ++ row_of vars f.coefficients shifted ∷ [] })

-- both `function` and `set` are there before either is read
unfoldable pub constraint_at : Variables → ℕ → Constraints → ℕ → Data → Result Constraints Refusal
constraint_at vars p found i d = do
  inner ← present_at (place part_kinds.Constraint p i 0) (get (codes "function") d)
  members ← object_at (place part_kinds.Constraint p i 0) inner
  other ← present_at (place part_kinds.Constraint p i 0) (get (codes "set") d)
  others ← object_at (place part_kinds.Constraint p i 0) other
  f ← function_at vars.names (Constraint p i) inner
  sides ← set_at (place part_kinds.Constraint p i 0) other
  joined_at vars (place part_kinds.Constraint p i 0) found f sides (bounded vars.uses.roles f.single)

-- no bounds of n variables, and no rows
abbrev pub no_constraints : ℕ → Constraints
no_constraints n = record { bounds = replicate n no_sides; rows = [] }

unfoldable pub constraints_at : Variables → ℕ → Items → Result Constraints Refusal
constraints_at vars p ds = walk_items (constraint_at vars p) (no_constraints (length vars.names)) 0 ds
