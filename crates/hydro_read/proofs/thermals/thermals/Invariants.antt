use Rattle.std.proofs.Common.{◌≡◌, ◌+◌}
use Rattle.serde_json.specs.Events.{members_len}
use Rattle.serde_json.specs.View.{members_view}
use Rattle.read_json.specs.Steps.{walk_members}
use Rattle.hydro_read.specs.Grid.{thermal_at, thermals_at}
use Rattle.hydro_read.proofs.thermals.thermals.Given as goal

abbrev pub invariant-loop-name : goal.invariant-loop-name
invariant-loop-name l = record {
  can : (goal.iterator-loop-name).can_next l.name-iterator;
  finite : (goal.iterator-loop-name).is_finite l.name-iterator;
  counted : l.i + members_len (members_view l.name-iterator) ≡ members_len (members_view l.table.entries);
  walked : walk_members (thermal_at l.buses) l.found l.i (members_view l.name-iterator) ≡ thermals_at l.buses (members_view l.table.entries);
}
