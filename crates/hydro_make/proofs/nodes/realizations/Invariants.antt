use Rattle.std.proofs.Common.{map, take, ◌≡◌}
use Rattle.serde_json.specs.View.{view}
use Rattle.hydro_make.specs.Nodes as nodes
use Rattle.hydro_make.proofs.nodes.realizations.Given as goal

abbrev pub invariant-loop-inflow : goal.invariant-loop-inflow
invariant-loop-inflow l = map view l.list.items ≡ map (nodes.node_realization l.plants l.stage.demand) (take l.inflow-index l.stage.inflows)
