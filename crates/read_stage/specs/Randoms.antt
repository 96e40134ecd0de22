-- The variables that are random.
use Rattle.std.specs.Prelude.{ℕ, List, [], ◌∷◌, ◌++◌, Result, Ok, nat_le, position, if◌then◌else◌}
use Rattle.std.specs.Str.{bytes_eq}
use Rattle.serde_json.specs.Data.{Data, Items}
use Rattle.serde_json.specs.Events.{items_len}
use Rattle.problem.specs.declared.refusal.Refusal.{Refusal}
use Rattle.problem.specs.declared.refusal.RefusalKind.TheVariants as kinds
use Rattle.problem.specs.declared.refusal.Part.TheVariants as part_kinds
use Rattle.read_json.specs.Steps.{◌>>=◌, walk_items}
use Rattle.read_json.specs.Fields.{place, refuse, string_at}
use Rattle.read_json.specs.Limits.{known_at}
use Rattle.read_stage.specs.declared.role.Role.TheVariants.{Random}
use Rattle.read_stage.specs.declared.role.Uses.{Uses}
use Rattle.read_stage.specs.Roles.{taken_at}

unfoldable pub random_at : List (List ℕ) → ℕ → Uses → ℕ → Data → Result Uses Refusal
random_at names p found i d = do
  name ← string_at (place part_kinds.Random p i 0) d
  v ← known_at (place part_kinds.Random p i 0) (position (bytes_eq name) names)
  roles ← taken_at (place part_kinds.Random p i 0) found.roles v Random
  Ok (record found { roles = roles; randoms = found.randoms ++ v ∷ []; names = found.names ++ name ∷ [] })

unfoldable pub each_random_at : List (List ℕ) → ℕ → Uses → Items → Result Uses Refusal
each_random_at names p found ds = walk_items (random_at names p) found 0 ds

-- at most 50
unfoldable pub randoms_at : List (List ℕ) → ℕ → Uses → Items → Result Uses Refusal
randoms_at names p found ds = if nat_le (items_len ds) 50 then each_random_at names p found ds else refuse kinds.TooLarge (place part_kinds.Subproblem p 0 0)
