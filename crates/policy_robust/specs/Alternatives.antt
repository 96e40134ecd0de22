-- The weights that a problem file lists for the realizations of its nodes, beside their own.
use Rattle.std.specs.Prelude.{ℕ, suc, List, [], ◌∷◌, ◌++◌, length, Option, Result, Ok, nat_le, ◌==◌, codes, unsigned_abs, if◌then◌else◌}
use Rattle.serde_json.specs.Data.{Data, Items, Members}
use Rattle.serde_json.specs.Events.{items_len}
use Rattle.serde_json.specs.Find.{get, get_member}
use Rattle.problem.specs.Validated.{Validated}
use Rattle.problem.specs.declared.parts.Node.{Node}
use Rattle.problem.specs.declared.refusal.Refusal.{Refusal}
use Rattle.problem.specs.declared.refusal.RefusalKind.TheVariants as kinds
use Rattle.problem.specs.declared.refusal.Part.TheVariants as part_kinds
use Rattle.problem.specs.declared.refusal.Place.{Place}
use Rattle.read_json.specs.Steps.{◌>>=◌, walk_items, walk_list}
use Rattle.read_json.specs.Fields.{place, refuse, whole, weight_at, present_at, array_at, json_at}
use Rattle.read_json.specs.Limits.{items_at}
use Rattle.read_file.specs.Tables.{table_at}
use Rattle.read_file.specs.Weights.{bounded_weights_at}
use Rattle.policy_robust.specs.declared.alternatives.Alternatives.{Alternatives}

-- the weight r of the alternative a of the node n; alternatives count from 1
abbrev pub at_weight : ℕ → ℕ → ℕ → Place
at_weight n a r = place part_kinds.Alternative n a r

unfoldable pub one_weight_at : ℕ → ℕ → List ℕ → ℕ → Data → Result (List ℕ) Refusal
one_weight_at n a found r d = do
  weight ← weight_at (at_weight n a r) d
  Ok (found ++ unsigned_abs weight ∷ [])

abbrev pub all_weights_at : ℕ → ℕ → Items → Result (List ℕ) Refusal
all_weights_at n a ds = walk_items (one_weight_at n a) [] 0 ds

-- one weight for each of so many realizations, at most 65535 together
unfoldable pub alternative_at : ℕ → ℕ → ℕ → Data → Result (List ℕ) Refusal
alternative_at n a count d = do
  ds ← array_at (at_weight n a 0) d
  if items_len ds == count then all_weights_at n a ds >>= bounded_weights_at (at_weight n a 0) 0 else refuse kinds.Shape (at_weight n a 0)

-- the alternative that comes after i others
unfoldable pub next_alternative_at : ℕ → ℕ → List (List ℕ) → ℕ → Data → Result (List (List ℕ)) Refusal
next_alternative_at n count found i d = do
  weights ← alternative_at n (suc i) count d
  Ok (found ++ weights ∷ [])

-- the node's own weights, and its alternatives
abbrev pub alternatives_at : ℕ → List ℕ → Items → Result (List (List ℕ)) Refusal
alternatives_at n own ds = walk_items (next_alternative_at n (length own)) (own ∷ []) 0 ds

-- the lists of the node n: its own weights, and at most ten alternatives
unfoldable pub node_lists_at : ℕ → List ℕ → Option Data → Result (List (List ℕ)) Refusal
node_lists_at n own listed = do
  ds ← items_at (at_weight n 0 0) listed
  if nat_le (items_len ds) 10 then alternatives_at n own ds else refuse kinds.TooLarge (at_weight n 0 0)

-- the alternatives of a node more, which stands under its name among the nodes of the file
unfoldable pub next_node_at : Members → List (List (List ℕ)) → ℕ → Node → Result (List (List (List ℕ))) Refusal
next_node_at members found n node = do
  d ← present_at whole (get_member node.name members)
  lists ← node_lists_at n node.weights (get (codes "alternatives") d)
  Ok (found ++ lists ∷ [])

abbrev pub all_lists_at : Members → List Node → Result (List (List (List ℕ))) Refusal
all_lists_at members nodes = walk_list (next_node_at members) [] 0 nodes

-- for each node of the problem that the bytes give its lists, or the first refusal
unfoldable pub alternatives_of : Validated → List ℕ → Result Alternatives Refusal
alternatives_of p bytes = do
  d ← json_at bytes
  members ← table_at (codes "nodes") d
  lists ← all_lists_at members p.parts.nodes
  Ok (record { lists = lists })
