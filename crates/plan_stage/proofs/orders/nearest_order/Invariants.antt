use Rattle.std.proofs.Common.{◌≡◌, ◌<◌, ◌+◌, ◌++◌, length, All}
use Rattle.plan_stage.specs.Orders.{near_by, numbers}
use Rattle.plan_stage.proofs.orders.nearest_order.Given as goal

abbrev pub invariant-loop : goal.invariant-loop
invariant-loop l = record {
  value : l.order ++ near_by l.values (length l.left.items) l.place l.left.items ≡ near_by l.values (length l.values) 0 (numbers (length l.values));
  count : length l.left.items + l.counter ≡ length l.values;
  known : All (λ i. i < length l.values) l.left.items;
  there : 0 < length l.left.items → l.place < length l.left.items;
}
