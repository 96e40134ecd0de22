use Rattle.std.proofs.Common.{◌≡◌, drop}
use Rattle.serde_json.specs.View.{members_view}
use Rattle.read_json.specs.Steps.{walk_list}
use Rattle.policy_robust.specs.Alternatives.{next_node_at, all_lists_at}
use Rattle.policy_robust.proofs.alternatives.all_lists.Given as goal

abbrev pub invariant-loop-n : goal.invariant-loop-n
invariant-loop-n l = walk_list (next_node_at (members_view l.table.entries)) l.found l.n (drop l.n l.nodes) ≡ all_lists_at (members_view l.table.entries) l.nodes
