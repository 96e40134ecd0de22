-- The boxes of decisions and incoming states.
use Rattle.std.specs.Prelude.{ℕ, ℤ, List, [], ◌∷◌, ◌++◌, slice_get, Option, Some, None, unwrap_or, map, Result, Ok}
use Rattle.problem.specs.declared.parts.Decision.{Decision}
use Rattle.problem.specs.declared.refusal.Refusal.{Refusal}
use Rattle.problem.specs.declared.refusal.RefusalKind.TheVariants as kinds
use Rattle.problem.specs.declared.refusal.Part.TheVariants as part_kinds
use Rattle.problem.specs.declared.refusal.Place.{Place}
use Rattle.base_num.specs.Sums.{entry}
use Rattle.read_json.specs.Steps.{◌>>=◌, walk_list}
use Rattle.read_json.specs.Fields.{place, refuse}
use Rattle.read_stage.specs.declared.role.Role.{Role}
use Rattle.read_stage.specs.declared.role.Role.TheVariants.{Free, Incoming, Outgoing, Random}
use Rattle.read_stage.specs.declared.variables.Variables.{Variables}
use Rattle.read_stage.specs.declared.sides.RowSides.{RowSides}
use Rattle.read_stage.specs.Sides.{no_sides, ordered_at}

-- a side that has to be there
unfoldable pub bound_at : Place → Option ℤ → Result ℤ Refusal
bound_at at None = refuse kinds.Unbounded at
bound_at at (Some z) = Ok z

unfoldable pub decision_at : Place → List Decision → List ℕ → RowSides → ℤ → Result (List Decision) Refusal
decision_at at found name sides cost = do
  low ← bound_at at sides.low
  high ← bound_at at sides.high
  ordered ← ordered_at at sides
  Ok (found ++ record { name = name; low = low; high = high; cost = cost } ∷ [])

unfoldable pub incoming_at : Place → List Decision → RowSides → Result (List Decision) Refusal
incoming_at at found sides = do
  ordered ← ordered_at at sides
  Ok found

-- the variable's box by its role: a decision has one, an incoming state may have one, a random variable has none
unfoldable pub box_at : Place → List Decision → Option Role → List ℕ → RowSides → ℤ → Result (List Decision) Refusal
box_at at found (Some Random) name sides cost = Ok found
box_at at found (Some Incoming) name sides cost = incoming_at at found sides
box_at at found (Some Outgoing) name sides cost = decision_at at found name sides cost
box_at at found (Some Free) name sides cost = decision_at at found name sides cost
box_at at found None name sides cost = Ok found

abbrev pub sides_of : List RowSides → ℕ → RowSides
sides_of bounds v = unwrap_or (slice_get bounds v) no_sides

unfoldable pub variable_box_at : Variables → ℕ → List RowSides → List ℤ → List Decision → ℕ → List ℕ → Result (List Decision) Refusal
variable_box_at vars p bounds costs found i name = box_at (place part_kinds.Variable p i 0) found (slice_get vars.uses.roles i) name (sides_of bounds i) (entry costs i)

-- each variable in the order of the file
unfoldable pub boxes_at : Variables → ℕ → List RowSides → List ℤ → Result (List Decision) Refusal
boxes_at vars p bounds costs = walk_list (variable_box_at vars p bounds costs) [] 0 vars.names

-- the given lower bounds of some variables
unfoldable pub given_low_bounds : List RowSides → List ℕ → List (Option ℤ)
given_low_bounds bounds vs = map (λ v. (sides_of bounds v).low) vs

-- the given upper bounds of some variables
unfoldable pub given_high_bounds : List RowSides → List ℕ → List (Option ℤ)
given_high_bounds bounds vs = map (λ v. (sides_of bounds v).high) vs
