use Rattle.std.proofs.Common.{◌≡◌, ◌+◌}
use Rattle.serde_json.specs.Events.{members_len}
use Rattle.serde_json.specs.View.{members_view}
use Rattle.read_json.specs.Steps.{walk_members}
use Rattle.hydro_read.specs.Grid.{read_reservoir_at, reservoirs_at}
use Rattle.hydro_read.proofs.reservoirs.reservoirs.Given as goal

abbrev pub invariant-loop-name : goal.invariant-loop-name
invariant-loop-name l = record {
  can : (goal.iterator-loop-name).can_next l.name-iterator;
  finite : (goal.iterator-loop-name).is_finite l.name-iterator;
  counted : l.i + members_len (members_view l.name-iterator) ≡ members_len (members_view l.table.entries);
  walked : walk_members (read_reservoir_at l.names.buses.now l.names.reservoirs.now) l.found l.i (members_view l.name-iterator) ≡ reservoirs_at l.names.buses.now (members_view l.table.entries) l.names.reservoirs.now;
}
