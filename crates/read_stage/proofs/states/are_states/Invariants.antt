use Rattle.std.proofs.Common.{◌≡◌}
use Rattle.serde_json.specs.View.{members_view}
use Rattle.read_stage.specs.States.{are_keys}
use Rattle.read_stage.proofs.states.are_states.Given as goal

abbrev pub invariant-loop-name : goal.invariant-loop-name
invariant-loop-name l = record {
  can : (goal.iterator-loop-name).can_next l.name-iterator;
  finite : (goal.iterator-loop-name).is_finite l.name-iterator;
  same : are_keys l.left (members_view l.name-iterator) ≡ are_keys l.states (members_view l.members.entries);
}
