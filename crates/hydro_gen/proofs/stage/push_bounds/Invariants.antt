use Rattle.std.proofs.Common.{map, ◌++◌, ◌≡◌}
use Rattle.std.specs.List.{flat_map}
use Rattle.serde_json.specs.View.{view}
use Rattle.base_graph.specs.Paths.{numbers}
use Rattle.hydro_gen.specs.Stage.{reservoir_bounds}
use Rattle.hydro_gen.proofs.stage.push_bounds.Given as goal

abbrev pub invariant-loop-reservoir : goal.invariant-loop-reservoir
invariant-loop-reservoir l = map view l.list.items ≡ map view l.initial.list.items ++ flat_map reservoir_bounds (numbers l.reservoir)
