use Rattle.std.proofs.Common.{map, ◌++◌, ◌≡◌}
use Rattle.serde_json.specs.View.{view}
use Rattle.base_graph.specs.Paths.{numbers}
use Rattle.hydro_make.specs.Stage as stage
use Rattle.hydro_make.proofs.stage.push_bus_rows.Given as goal

abbrev pub invariant-loop-b : goal.invariant-loop-b
invariant-loop-b l = map view l.list.items ≡ map view l.initial.list.items ++ map (λ n. stage.zero_row l.plants (stage.bus_sum l.plants n)) (numbers l.b)
