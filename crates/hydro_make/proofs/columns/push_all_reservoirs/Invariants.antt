use Rattle.std.proofs.Common.{map, ◌++◌, ◌≡◌}
use Rattle.std.specs.List.{flat_map}
use Rattle.base_graph.specs.Paths.{numbers}
use Rattle.hydro_make.specs.Columns as columns
use Rattle.hydro_make.specs.Seen.{seen_column}
use Rattle.hydro_make.proofs.columns.push_all_reservoirs.Given as goal

abbrev pub invariant-loop-j : goal.invariant-loop-j
invariant-loop-j l = map seen_column l.list.items ≡ map seen_column l.initial.list.items ++ flat_map (columns.reservoir_columns l.plants) (numbers l.j)
