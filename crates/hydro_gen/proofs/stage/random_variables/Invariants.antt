use Rattle.std.proofs.Common.{map, ◌≡◌}
use Rattle.serde_json.specs.Data.{string}
use Rattle.serde_json.specs.View.{view}
use Rattle.base_graph.specs.Paths.{numbers}
use Rattle.hydro_gen.specs.Stage.{inflow_name}
use Rattle.hydro_gen.proofs.stage.random_variables.Given as goal

abbrev pub invariant-loop-reservoir : goal.invariant-loop-reservoir
invariant-loop-reservoir l = map view l.list.items ≡ map (λ j. string (inflow_name j)) (numbers l.reservoir)
