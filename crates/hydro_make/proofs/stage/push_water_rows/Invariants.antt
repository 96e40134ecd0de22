use Rattle.std.proofs.Common.{map, ◌++◌, ◌≡◌}
use Rattle.serde_json.specs.View.{view}
use Rattle.base_graph.specs.Paths.{numbers}
use Rattle.hydro_make.specs.Stage as stage
use Rattle.hydro_make.proofs.stage.push_water_rows.Given as goal

abbrev pub invariant-loop-j : goal.invariant-loop-j
invariant-loop-j l = map view l.list.items ≡ map view l.initial.list.items ++ map (λ n. stage.zero_row l.plants (stage.water_sum l.plants n)) (numbers l.j)
