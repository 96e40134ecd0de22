use Rattle.std.proofs.Common.{◌≡◌, ◌+◌}
use Rattle.serde_json.specs.Events.{members_len}
use Rattle.serde_json.specs.View.{members_view}
use Rattle.read_json.specs.Steps.{walk_members}
use Rattle.read_file.specs.Root.{state_at, states_at}
use Rattle.read_file.proofs.root.states.Given as goal

abbrev pub invariant-loop-name : goal.invariant-loop-name
invariant-loop-name l = record {
  can : (goal.iterator-loop-name).can_next l.name-iterator;
  finite : (goal.iterator-loop-name).is_finite l.name-iterator;
  counted : l.s + members_len (members_view l.name-iterator) ≡ members_len (members_view l.members.entries);
  walked : walk_members state_at l.found l.s (members_view l.name-iterator) ≡ states_at (members_view l.members.entries);
}
