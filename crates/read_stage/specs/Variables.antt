-- The names of a subproblem's variables.
use Rattle.std.specs.Prelude.{ℕ, List, [], ◌∷◌, ◌++◌, Result, Ok, codes, if◌then◌else◌}
use Rattle.std.specs.Str.{bytes_eq}
use Rattle.std.specs.List.{list_any}
use Rattle.serde_json.specs.Data.{Data, Items}
use Rattle.serde_json.specs.Find.{get}
use Rattle.problem.specs.declared.refusal.Refusal.{Refusal}
use Rattle.problem.specs.declared.refusal.RefusalKind.TheVariants as kinds
use Rattle.problem.specs.declared.refusal.Part.TheVariants as part_kinds
use Rattle.problem.specs.declared.refusal.Place.{Place}
use Rattle.read_json.specs.Steps.{◌>>=◌, walk_items}
use Rattle.read_json.specs.Fields.{place, refuse, present_at}
use Rattle.read_json.specs.Limits.{name_at}

-- one more name, which no earlier variable has
abbrev pub fresh_at : Place → List (List ℕ) → List ℕ → Result (List (List ℕ)) Refusal
fresh_at at found name = if list_any (bytes_eq name) found then refuse kinds.Duplicate at else Ok (found ++ name ∷ [])

unfoldable pub variable_at : ℕ → List (List ℕ) → ℕ → Data → Result (List (List ℕ)) Refusal
variable_at p found i d = do
  inner ← present_at (place part_kinds.Variable p i 0) (get (codes "name") d)
  name ← name_at (place part_kinds.Variable p i 0) inner
  fresh_at (place part_kinds.Variable p i 0) found name

unfoldable pub names_at : ℕ → Items → Result (List (List ℕ)) Refusal
names_at p ds = walk_items (variable_at p) [] 0 ds
