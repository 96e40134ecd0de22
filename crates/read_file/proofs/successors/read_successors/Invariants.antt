use Rattle.std.proofs.Common.{◌≡◌, ◌+◌}
use Rattle.serde_json.specs.Events.{members_len}
use Rattle.serde_json.specs.View.{members_view}
use Rattle.read_json.specs.Fields.{place}
use Rattle.read_json.specs.Steps.{walk_members}
use Rattle.read_file.specs.Successors.{successor_at, read_successors_at}
use Rattle.read_file.proofs.successors.read_successors.Given as goal

abbrev pub invariant-loop-name : goal.invariant-loop-name
invariant-loop-name l = record {
  can : (goal.iterator-loop-name).can_next l.name-iterator;
  finite : (goal.iterator-loop-name).is_finite l.name-iterator;
  counted : l.i + members_len (members_view l.name-iterator) ≡ members_len (members_view l.members.entries);
  walked : walk_members (λ found i k d. successor_at (place l.part l.a i 0) l.names found k d) l.found l.i (members_view l.name-iterator) ≡ read_successors_at l.part l.a l.names (members_view l.members.entries);
}
