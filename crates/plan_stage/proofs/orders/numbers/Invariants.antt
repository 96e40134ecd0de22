use Rattle.std.proofs.Common.{◌≡◌}
use Rattle.plan_stage.specs.Orders.{numbers}
use Rattle.plan_stage.proofs.orders.numbers.Given as goal

abbrev pub invariant-loop-number : goal.invariant-loop-number
invariant-loop-number l = l.found.items ≡ numbers l.number
