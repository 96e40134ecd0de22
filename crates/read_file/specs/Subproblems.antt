-- The subproblems of a problem file.
use Rattle.std.specs.Prelude.{ℕ, List, [], ◌∷◌, ◌++◌, Result, Ok}
use Rattle.serde_json.specs.Data.{Data, Members}
use Rattle.problem.specs.declared.parts.State.{State}
use Rattle.problem.specs.declared.parts.Subproblem.{Subproblem}
use Rattle.problem.specs.declared.refusal.Refusal.{Refusal}
use Rattle.read_json.specs.Steps.{◌>>=◌, walk_members}
use Rattle.read_json.specs.Fields.{keys_of}
use Rattle.read_stage.specs.Subproblem.{read_subproblem_at}
use Rattle.read_file.specs.declared.subproblems.SubproblemTable.{SubproblemTable}

-- one more subproblem
unfoldable pub another_at : List State → List Subproblem → ℕ → List ℕ → Data → Result (List Subproblem) Refusal
another_at states found p k d = do
  sub ← read_subproblem_at states p k d
  Ok (found ++ sub ∷ [])

unfoldable pub listed_subproblems_at : List State → Members → Result (List Subproblem) Refusal
listed_subproblems_at states ms = walk_members (another_at states) [] 0 ms

unfoldable pub subproblems_at : List State → Members → Result SubproblemTable Refusal
subproblems_at states ms = do
  subs ← listed_subproblems_at states ms
  Ok (record { names = keys_of ms; subs = subs })
