-- The variables that the states use.
use Rattle.std.specs.Prelude.{ℕ, List, [], ◌∷◌, ◌++◌, Bool, true, false, ◌&&◌, Result, Ok, position, codes, if◌then◌else◌}
use Rattle.std.specs.Str.{bytes_eq}
use Rattle.serde_json.specs.Data.{Data, Members, no_members, member}
use Rattle.serde_json.specs.Find.{get}
use Rattle.problem.specs.declared.parts.State.{State}
use Rattle.problem.specs.declared.refusal.Refusal.{Refusal}
use Rattle.problem.specs.declared.refusal.RefusalKind.TheVariants as kinds
use Rattle.problem.specs.declared.refusal.Part.TheVariants as part_kinds
use Rattle.read_json.specs.Steps.{◌>>=◌, walk_members}
use Rattle.read_json.specs.Fields.{place, refuse, present_at, string_at}
use Rattle.read_json.specs.Limits.{known_at}
use Rattle.read_stage.specs.declared.role.Role.TheVariants.{Incoming, Outgoing}
use Rattle.read_stage.specs.declared.role.Uses.{Uses}
use Rattle.read_stage.specs.Roles.{taken_at}

-- the keys are the names of the states, in order
abbrev pub are_keys : List State → Members → Bool
are_keys [] no_members = true
are_keys [] (member k d ms) = false
are_keys (s ∷ ss) no_members = false
are_keys (s ∷ ss) (member k d ms) = bytes_eq k s.name && are_keys ss ms

-- both variables of a state: first both are strings, then both are known, then neither is used
unfoldable pub uses_of_state_at : List (List ℕ) → ℕ → Uses → ℕ → List ℕ → Data → Result Uses Refusal
uses_of_state_at names p found s k d = do
  before ← present_at (place part_kinds.State p s 0) (get (codes "in") d)
  first ← string_at (place part_kinds.State p s 0) before
  after ← present_at (place part_kinds.State p s 0) (get (codes "out") d)
  second ← string_at (place part_kinds.State p s 0) after
  incoming ← known_at (place part_kinds.State p s 0) (position (bytes_eq first) names)
  outgoing ← known_at (place part_kinds.State p s 0) (position (bytes_eq second) names)
  once ← taken_at (place part_kinds.State p s 0) found.roles incoming Incoming
  twice ← taken_at (place part_kinds.State p s 0) once outgoing Outgoing
  Ok (record found { roles = twice; incoming = found.incoming ++ incoming ∷ []; outgoing = found.outgoing ++ outgoing ∷ [] })

unfoldable pub each_state_at : List (List ℕ) → ℕ → Uses → Members → Result Uses Refusal
each_state_at names p found ms = walk_members (uses_of_state_at names p) found 0 ms

unfoldable pub uses_of_states_at : List State → List (List ℕ) → ℕ → Uses → Members → Result Uses Refusal
uses_of_states_at states names p found ms = if are_keys states ms then each_state_at names p found ms else refuse kinds.States (place part_kinds.Subproblem p 0 0)
