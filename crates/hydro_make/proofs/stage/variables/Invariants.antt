use Rattle.std.proofs.Common.{map, take, ◌≡◌}
use Rattle.serde_json.specs.View.{view}
use Rattle.hydro_make.specs.Stage as stage
use Rattle.hydro_make.specs.Seen.{seen_column}
use Rattle.hydro_make.proofs.stage.variables.Given as goal

abbrev pub invariant-loop-column : goal.invariant-loop-column
invariant-loop-column l = map view l.list.items ≡ map (stage.column_variable l.plants) (map seen_column (take l.column-index l.columns))
