-- The root: the states with their initial values, and the nodes that the horizon may begin with.
use Rattle.std.specs.Prelude.{ℕ, ◌==◌, ℤ, List, [], ◌∷◌, ◌++◌, Result, Ok, ⊤, nat_le, codes, if◌then◌else◌}
use Rattle.serde_json.specs.Data.{Data, null, boolean, number, string, array, object, Members}
use Rattle.serde_json.specs.Events.{members_len}
use Rattle.serde_json.specs.Find.{get, get_member}
use Rattle.problem.specs.declared.parts.State.{State}
use Rattle.problem.specs.declared.refusal.Refusal.{Refusal}
use Rattle.problem.specs.declared.refusal.RefusalKind.TheVariants as kinds
use Rattle.problem.specs.declared.refusal.Part.TheVariants as part_kinds
use Rattle.problem.specs.declared.refusal.Place.{Place}
use Rattle.read_json.specs.Steps.{◌>>=◌, walk_members}
use Rattle.read_json.specs.Fields.{place, refuse, whole_at, key_at, present_at, object_at}
use Rattle.read_json.specs.Limits.{members_at}
use Rattle.read_file.specs.Successors.{read_successors_at}
use Rattle.read_file.specs.Weights.{bounded_weights_at}
use Rattle.read_file.specs.declared.root.Root.{Root}

abbrev pub root : Place
root = place part_kinds.Root 0 0 0

-- a whole number, or an object whose `initial_value` is one
unfoldable pub initial_at : Place → Data → Result ℤ Refusal
initial_at p null = whole_at p null
initial_at p (boolean b) = whole_at p (boolean b)
initial_at p (number n) = whole_at p (number n)
initial_at p (string s) = whole_at p (string s)
initial_at p (array ds) = whole_at p (array ds)
initial_at p (object ms) = do
  inner ← present_at p (get (codes "initial_value") (object ms))
  whole_at p inner

abbrev pub at_state : ℕ → Place
at_state s = place part_kinds.Root 1 s 0

unfoldable pub state_at : List State → ℕ → List ℕ → Data → Result (List State) Refusal
state_at found s k d = do
  name ← key_at (at_state s) k
  initial ← initial_at (at_state s) d
  Ok (found ++ record { name = name; initial = initial } ∷ [])

unfoldable pub states_at : Members → Result (List State) Refusal
states_at ms = walk_members state_at [] 0 ms

-- there is a successor, and there are at most 50 states
unfoldable pub counts_at : Place → ℕ → ℕ → Result ⊤ Refusal
counts_at p states successors = if successors == 0 then refuse kinds.Shape p else (if nat_le states 50 then Ok tt else refuse kinds.TooLarge p)

unfoldable pub root_at : List (List ℕ) → Members → Result Root Refusal
root_at names ms = do
  states ← members_at root (get_member (codes "state_variables") ms)
  inner ← present_at root (get_member (codes "successors") ms)
  successors ← object_at root inner
  counted ← counts_at root (members_len states) (members_len successors)
  found ← states_at states
  arcs ← read_successors_at part_kinds.Root 2 names successors
  weights ← bounded_weights_at root 0 arcs.weights
  Ok (record { states = found; nodes = arcs.nodes; weights = weights })
