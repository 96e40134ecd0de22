use Rattle.std.proofs.Common.{map, ◌++◌, ◌≡◌}
use Rattle.std.specs.List.{flat_map}
use Rattle.hydro_make.specs.Layout.{steps}
use Rattle.hydro_make.specs.Columns as columns
use Rattle.hydro_make.specs.Seen.{seen_column}
use Rattle.hydro_make.proofs.columns.push_way_columns.Given as goal

abbrev pub invariant-loop-k : goal.invariant-loop-k
invariant-loop-k l = map seen_column l.list.items ≡ map seen_column l.initial.list.items ++ flat_map (columns.way_columns l.j) (steps l.k)
