use Rattle.std.proofs.Common.{◌≡◌, ◌+◌}
use Rattle.serde_json.specs.Events.{members_len}
use Rattle.serde_json.specs.View.{members_view}
use Rattle.read_json.specs.Steps.{walk_members}
use Rattle.read_file.specs.Nodes.{read_node_at, nodes_at}
use Rattle.read_file.proofs.nodes.nodes.Given as goal

abbrev pub invariant-loop-name : goal.invariant-loop-name
invariant-loop-name l = record {
  can : (goal.iterator-loop-name).can_next l.name-iterator;
  finite : (goal.iterator-loop-name).is_finite l.name-iterator;
  counted : l.n + members_len (members_view l.name-iterator) ≡ members_len (members_view l.table.entries);
  walked : walk_members (read_node_at l.names l.subproblems) l.found l.n (members_view l.name-iterator) ≡ nodes_at l.names l.subproblems (members_view l.table.entries);
}
