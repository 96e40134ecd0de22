use Rattle.std.proofs.Common.{arith}
use Rattle.lp_scan.proofs.values.plus_slopes.Goals as goal

pub plus_slope-sum-requires-clause-sum : goal.plus_slope-sum-requires-clause-sum
plus_slope-sum-requires-clause-sum c = omega (arith, c.loop-k.invariant.small, c.loop-k-test.true, c.requires.few)
