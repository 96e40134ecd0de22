use Rattle.std.proofs.Common.{map, take, ◌++◌, ◌≡◌}
use Rattle.std.specs.List.{flat_map}
use Rattle.serde_json.specs.View.{view}
use Rattle.hydro_make.specs.Stage as stage
use Rattle.hydro_make.specs.Seen.{seen_column}
use Rattle.hydro_make.proofs.bounds.push_bounds.Given as goal

abbrev pub invariant-loop-column : goal.invariant-loop-column
invariant-loop-column l = map view l.list.items ≡ map view l.initial.list.items ++ flat_map (stage.bounds_of l.plants) (map seen_column (take l.column-index l.columns))
