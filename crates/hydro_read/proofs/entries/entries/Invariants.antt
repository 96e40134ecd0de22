use Rattle.std.proofs.Common.{◌≡◌, drop}
use Rattle.serde_json.specs.View.{members_view}
use Rattle.read_json.specs.Steps.{walk_list}
use Rattle.hydro_read.specs.Fields.{hydro_entry_at, hydro_entries_at}
use Rattle.hydro_read.proofs.entries.entries.Given as goal

abbrev pub invariant-loop-i : goal.invariant-loop-i
invariant-loop-i l = walk_list (hydro_entry_at l.place l.least (members_view l.table.entries)) l.found l.i (drop l.i l.names) ≡ hydro_entries_at l.place l.least l.names (members_view l.table.entries)
