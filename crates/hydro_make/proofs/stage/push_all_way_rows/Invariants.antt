use Rattle.std.proofs.Common.{map, ◌++◌, ◌≡◌}
use Rattle.std.specs.List.{flat_map}
use Rattle.serde_json.specs.View.{view}
use Rattle.base_graph.specs.Paths.{numbers}
use Rattle.hydro_make.specs.Stage as stage
use Rattle.hydro_make.proofs.stage.push_all_way_rows.Given as goal

abbrev pub invariant-loop-j : goal.invariant-loop-j
invariant-loop-j l = map view l.list.items ≡ map view l.initial.list.items ++ flat_map (stage.way_constraints l.plants) (numbers l.j)
