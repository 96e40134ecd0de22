use Rattle.std.proofs.Common.{◌≡◌, ◌<◌, take, get_or}
use Rattle.plan_stage.specs.Orders.{distances, place_of_least}
use Rattle.plan_stage.proofs.orders.nearest.Given as goal

abbrev pub invariant-loop-k : goal.invariant-loop-k
invariant-loop-k l = record {
  value : l.place ≡ place_of_least (take l.k (distances l.values l.from l.left));
  least : 0 < l.k → l.least ≡ get_or (take l.k (distances l.values l.from l.left)) l.place 0;
  there : 0 < l.k → l.place < l.k;
}
