use Rattle.std.proofs.Common.{map, ◌≡◌}
use Rattle.serde_json.specs.View.{view}
use Rattle.base_graph.specs.Paths.{numbers}
use Rattle.hydro_gen.specs.Stage.{balance}
use Rattle.hydro_gen.proofs.stage.balances.Given as goal

abbrev pub invariant-loop-reservoir : goal.invariant-loop-reservoir
invariant-loop-reservoir l = map view l.list.items ≡ map balance (numbers l.reservoir)
