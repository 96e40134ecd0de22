use Rattle.std.proofs.Common.{◌≡◌, ◌+◌, ◌*◌, ◌≤◌, ◌^◌, drop}
use Rattle.plan_stage.specs.Orders.{distance}
use Rattle.plan_stage.proofs.orders.distance.Given as goal

abbrev pub invariant-loop-k : goal.invariant-loop-k
invariant-loop-k l = record {
  value : l.sum + distance (drop l.k l.one) (drop l.k l.other) ≡ distance l.one l.other;
  room : l.sum ≤ l.k * 2 ^ 64;
}
