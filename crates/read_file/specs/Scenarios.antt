-- The stored scenarios: paths through the graph with the values of their random variables.
use Rattle.std.specs.Prelude.{ℕ, List, [], ◌∷◌, ◌++◌, ◌-◌, ◌==◌, Option, Some, None, Result, Ok, ⊤, length, slice_get, position, codes, if◌then◌else◌}
use Rattle.std.specs.Str.{bytes_eq}
use Rattle.std.specs.List.{list_any}
use Rattle.serde_json.specs.Data.{Data, null, boolean, number, string, array, object, Items}
use Rattle.serde_json.specs.Events.{items_len}
use Rattle.serde_json.specs.Find.{get}
use Rattle.problem.specs.Parts.{successors_at, subproblem_at}
use Rattle.problem.specs.declared.parts.Moment.{Moment}
use Rattle.problem.specs.declared.parts.ProblemParts.{ProblemParts}
use Rattle.problem.specs.declared.refusal.Refusal.{Refusal}
use Rattle.problem.specs.declared.refusal.RefusalKind.TheVariants as kinds
use Rattle.problem.specs.declared.refusal.Part.TheVariants as part_kinds
use Rattle.problem.specs.declared.refusal.Place.{Place}
use Rattle.read_json.specs.Steps.{◌>>=◌, walk_items}
use Rattle.read_json.specs.Fields.{place, refuse, string_at, array_at, present_at, object_at}
use Rattle.read_json.specs.Limits.{known_at, members_at}
use Rattle.read_file.specs.Values.{randoms_in, values_at}

-- where a path that ends with this step may go on
abbrev pub successors_after : ProblemParts → Option Moment → List ℕ
successors_after parts None = parts.root
successors_after parts (Some last) = successors_at parts last.node

-- the path may go on to the node
unfoldable pub follows_at : Place → ProblemParts → List Moment → ℕ → Result ⊤ Refusal
follows_at p parts path node = if list_any (λ successor. successor == node) (successors_after parts (slice_get path (length path - 1))) then Ok tt else refuse kinds.Scenario p

abbrev pub at_scenario : ℕ → Place
at_scenario k = place part_kinds.Scenario k 0 0

abbrev pub at_step : ℕ → ℕ → Place
at_step k t = place part_kinds.Step k t 0

unfoldable pub scenario_step_at : List (List ℕ) → ProblemParts → ℕ → List Moment → ℕ → Data → Result (List Moment) Refusal
scenario_step_at names parts k path t d = do
  all ← object_at (at_step k t) d
  inner ← present_at (at_step k t) (get (codes "node") d)
  name ← string_at (at_step k t) inner
  support ← members_at (at_step k t) (get (codes "support") d)
  node ← known_at (at_step k t) (position (bytes_eq name) names)
  follows ← follows_at (at_step k t) parts path node
  values ← values_at part_kinds.Step k t (randoms_in (subproblem_at parts node)) support
  Ok (path ++ record { node = node; values = values } ∷ [])

unfoldable pub path_at : List (List ℕ) → ProblemParts → ℕ → Items → Result (List Moment) Refusal
path_at names parts k ds = walk_items (scenario_step_at names parts k) [] 0 ds

-- an array of steps, or an object whose `scenario` is one
unfoldable pub scenario_steps_at : Place → Data → Result Items Refusal
scenario_steps_at p null = refuse kinds.Shape p
scenario_steps_at p (boolean b) = refuse kinds.Shape p
scenario_steps_at p (number n) = refuse kinds.Shape p
scenario_steps_at p (string s) = refuse kinds.Shape p
scenario_steps_at p (array ds) = Ok ds
scenario_steps_at p (object ms) = do
  inner ← present_at p (get (codes "scenario") (object ms))
  array_at p inner

-- at least one
unfoldable pub some_at : Place → Items → Result Items Refusal
some_at p ds = if items_len ds == 0 then refuse kinds.Scenario p else Ok ds

unfoldable pub scenario_at : List (List ℕ) → ProblemParts → List (List Moment) → ℕ → Data → Result (List (List Moment)) Refusal
scenario_at names parts found k d = do
  all ← scenario_steps_at (at_scenario k) d
  steps ← some_at (at_scenario k) all
  path ← path_at names parts k steps
  Ok (found ++ path ∷ [])

unfoldable pub scenarios_at : List (List ℕ) → ProblemParts → Items → Result (List (List Moment)) Refusal
scenarios_at names parts ds = walk_items (scenario_at names parts) [] 0 ds
