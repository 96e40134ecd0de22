use Rattle.std.proofs.Common.{◌≡◌, drop}
use Rattle.serde_json.specs.View.{items_view}
use Rattle.read_json.specs.Steps.{walk_items}
use Rattle.hydro_read.specs.Stages.{inflow_at, inflows_at}
use Rattle.hydro_read.proofs.inflows.inflows.Given as goal

abbrev pub invariant-loop-k : goal.invariant-loop-k
invariant-loop-k l = walk_items (inflow_at l.reservoirs l.t) l.found l.k (items_view (drop l.k l.items)) ≡ inflows_at l.reservoirs l.t (items_view l.items)
