use Rattle.std.proofs.Common.{◌≡◌, ◌+◌}
use Rattle.serde_json.specs.Events.{members_len}
use Rattle.serde_json.specs.View.{members_view}
use Rattle.read_json.specs.Steps.{walk_members}
use Rattle.read_stage.specs.States.{uses_of_state_at, each_state_at}
use Rattle.read_stage.proofs.states.each_state.Given as goal

abbrev pub invariant-loop-name : goal.invariant-loop-name
invariant-loop-name l = record {
  can : (goal.iterator-loop-name).can_next l.name-iterator;
  finite : (goal.iterator-loop-name).is_finite l.name-iterator;
  counted : l.s + members_len (members_view l.name-iterator) ≡ members_len (members_view l.members.entries);
  walked : walk_members (uses_of_state_at l.names l.p) l.found l.s (members_view l.name-iterator) ≡ each_state_at l.names l.p l.initial.found (members_view l.members.entries);
}
