-- The cost of a stage.
use Rattle.std.specs.Prelude.{ℕ, List, length, Result, Ok, codes, if◌then◌else◌}
use Rattle.std.specs.Str.{bytes_eq}
use Rattle.serde_json.specs.Data.{Data}
use Rattle.serde_json.specs.Find.{get}
use Rattle.problem.specs.declared.refusal.Refusal.{Refusal}
use Rattle.problem.specs.declared.refusal.RefusalKind.TheVariants as kinds
use Rattle.problem.specs.declared.refusal.Part.TheVariants as part_kinds
use Rattle.read_json.specs.Steps.{◌>>=◌}
use Rattle.read_json.specs.Fields.{place, refuse, present_at, string_at}
use Rattle.read_stage.specs.declared.function.Site.TheVariants.{Objective}
use Rattle.read_stage.specs.declared.function.Function.{Function}
use Rattle.read_stage.specs.Function.{zero_function, function_at}

-- the function that is to be least
unfoldable pub costs_at : List (List ℕ) → ℕ → Data → Result Function Refusal
costs_at names p d = do
  inner ← present_at (place part_kinds.Objective p 0 0) (get (codes "function") d)
  function_at names (Objective p) inner

-- all costs are 0 where any feasible decision will do
unfoldable pub objective_at : List (List ℕ) → ℕ → Data → Result Function Refusal
objective_at names p d = do
  inner ← present_at (place part_kinds.Objective p 0 0) (get (codes "sense") d)
  sense ← string_at (place part_kinds.Objective p 0 0) inner
  if bytes_eq sense (codes "min") then costs_at names p d
      else (if bytes_eq sense (codes "feasibility") then Ok (zero_function (length names))
      else refuse kinds.Unsupported (place part_kinds.Objective p 0 0))
