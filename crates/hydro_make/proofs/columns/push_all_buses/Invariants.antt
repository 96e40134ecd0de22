use Rattle.std.proofs.Common.{map, ◌++◌, ◌≡◌}
use Rattle.std.specs.List.{flat_map}
use Rattle.base_graph.specs.Paths.{numbers}
use Rattle.hydro_make.specs.Columns as columns
use Rattle.hydro_make.specs.Seen.{seen_column}
use Rattle.hydro_make.proofs.columns.push_all_buses.Given as goal

abbrev pub invariant-loop-b : goal.invariant-loop-b
invariant-loop-b l = map seen_column l.list.items ≡ map seen_column l.initial.list.items ++ flat_map columns.bus_columns (numbers l.b)
