use Rattle.std.proofs.Common.{◌≡◌, ◌+◌}
use Rattle.serde_json.specs.Events.{members_len}
use Rattle.serde_json.specs.View.{members_view}
use Rattle.read_json.specs.Steps.{walk_members}
use Rattle.read_file.specs.Subproblems.{another_at, listed_subproblems_at}
use Rattle.read_file.proofs.subproblems.listed.Given as goal

abbrev pub invariant-loop-name : goal.invariant-loop-name
invariant-loop-name l = record {
  can : (goal.iterator-loop-name).can_next l.name-iterator;
  finite : (goal.iterator-loop-name).is_finite l.name-iterator;
  counted : l.p + members_len (members_view l.name-iterator) ≡ members_len (members_view l.table.entries);
  walked : walk_members (another_at l.states) l.found l.p (members_view l.name-iterator) ≡ listed_subproblems_at l.states (members_view l.table.entries);
}
