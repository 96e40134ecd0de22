use Rattle.std.proofs.Common.{◌≡◌, ◌+◌, take}
use Rattle.hydro_read.specs.Stages.{total_inflow_weight}
use Rattle.hydro_read.proofs.inflows.total.Given as goal

abbrev pub invariant-loop-inflow : goal.invariant-loop-inflow
invariant-loop-inflow l = l.left + total_inflow_weight (take l.inflow-index l.inflows) ≡ 65535
