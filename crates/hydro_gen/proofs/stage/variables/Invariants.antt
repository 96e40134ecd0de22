use Rattle.std.proofs.Common.{map, ◌≡◌}
use Rattle.std.specs.List.{flat_map}
use Rattle.serde_json.specs.View.{view}
use Rattle.base_graph.specs.Paths.{numbers}
use Rattle.hydro_gen.specs.Stage.{reservoir_variables}
use Rattle.hydro_gen.proofs.stage.variables.Given as goal

abbrev pub invariant-loop-reservoir : goal.invariant-loop-reservoir
invariant-loop-reservoir l = map view l.list.items ≡ flat_map reservoir_variables (numbers l.reservoir)
