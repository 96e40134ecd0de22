-- The nodes of the policy graph.
use Rattle.std.specs.Prelude.{ℕ, pos, List, [], ◌∷◌, ◌++◌, Option, Some, None, Result, Ok, int_lt, position, codes, unsigned_abs, if◌then◌else◌}
use Rattle.std.specs.Str.{bytes_eq}
use Rattle.serde_json.specs.Data.{Data, Members}
use Rattle.serde_json.specs.Find.{get}
use Rattle.problem.specs.declared.parts.Node.{Node}
use Rattle.problem.specs.declared.refusal.Refusal.{Refusal}
use Rattle.problem.specs.declared.refusal.RefusalKind.TheVariants as kinds
use Rattle.problem.specs.declared.refusal.Part.TheVariants as part_kinds
use Rattle.problem.specs.declared.refusal.Place.{Place}
use Rattle.read_json.specs.Steps.{◌>>=◌, walk_members}
use Rattle.read_json.specs.Fields.{refuse, whole_at, key_at, string_at, present_at, object_at}
use Rattle.read_json.specs.Limits.{known_at, members_at, items_at}
use Rattle.read_file.specs.Realizations.{at_node, realizations_at}
use Rattle.read_file.specs.Successors.{read_successors_at}
use Rattle.read_file.specs.Values.{randoms_of}
use Rattle.read_file.specs.Weights.{bounded_weights_at}
use Rattle.read_file.specs.declared.nodes.Transitions.{Transitions}
use Rattle.read_file.specs.declared.subproblems.SubproblemTable.{SubproblemTable}

-- the weight with which the horizon ends at a node, 0 where it is absent
unfoldable pub stop_at : Place → Option Data → Result ℕ Refusal
stop_at p None = Ok 0
stop_at p (Some d) = do
  stop ← whole_at p d
  if int_lt stop (pos 0) then refuse kinds.Weight p else Ok (unsigned_abs stop)

-- where a path may go on from node n, or end; names are those of all nodes
unfoldable pub transitions_at : List (List ℕ) → ℕ → Members → Option Data → Result Transitions Refusal
transitions_at names n successors ending = do
  arcs ← read_successors_at part_kinds.Successor n names successors
  stop ← stop_at (at_node n) ending
  weights ← bounded_weights_at (at_node n) stop arcs.weights
  Ok (record { nodes = arcs.nodes; weights = weights; stop = stop })

unfoldable pub read_node_at : List (List ℕ) → SubproblemTable → List Node → ℕ → List ℕ → Data → Result (List Node) Refusal
read_node_at names subproblems found n k d = do
  name ← key_at (at_node n) k
  all ← object_at (at_node n) d
  inner ← present_at (at_node n) (get (codes "subproblem") d)
  sub_name ← string_at (at_node n) inner
  items ← items_at (at_node n) (get (codes "realizations") d)
  successors ← members_at (at_node n) (get (codes "successors") d)
  sub ← known_at (at_node n) (position (bytes_eq sub_name) subproblems.names)
  realizations ← realizations_at n (randoms_of subproblems.subs sub) items
  weights ← bounded_weights_at (at_node n) 0 realizations.weights
  transitions ← transitions_at names n successors (get (codes "stop") d)
  Ok (found ++ record { name = name; sub = sub; weights = weights; values = realizations.values; successors = transitions.nodes; successor_weights = transitions.weights; stop = transitions.stop } ∷ [])

unfoldable pub nodes_at : List (List ℕ) → SubproblemTable → Members → Result (List Node) Refusal
nodes_at names subproblems ms = walk_members (read_node_at names subproblems) [] 0 ms
