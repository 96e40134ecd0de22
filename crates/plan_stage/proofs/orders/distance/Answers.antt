use Rattle.std.proofs.Common.{arith}
use Rattle.plan_stage.proofs.NearBy.{distance_end}
use Rattle.plan_stage.proofs.orders.distance.Goals as goal

pub returns : goal.returns
returns c = omega (arith, c.loop-k.invariant.value, distance_end c.args.one.now c.args.other.now c.loop-k.k (λ h i. omega (arith, c.loop-k-test.false, c.min-k-end.ensures, h, i)))
