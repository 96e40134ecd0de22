use Rattle.std.proofs.Common.{arith}
use Rattle.std.proofs.lemmas.Int.{ints, to_z-of_z}
use mir.Syntax.{w128}
use Rattle.lp_table.proofs.Shifts.{down_to_none, down_to_one}
use Rattle.lp_table.proofs.numbers.shift_down.Goals as goal

pub returns-then-v-lt0 : goal.returns-then-v-lt0
returns-then-v-lt0 c =
    let h = rw (to_z-of_z w128 c.args.v c.ranges.v) at c.if-v-lt0.true in
    down_to_one c.args.v c.args.k c.ranges.v (omega (arith, c.if-k-le126.false)) (omega (arith, ints, h))

pub returns-else-v-lt0 : goal.returns-else-v-lt0
returns-else-v-lt0 c =
    let h = rw (to_z-of_z w128 c.args.v c.ranges.v) at c.if-v-lt0.false in
    down_to_none c.args.v c.args.k c.ranges.v (omega (arith, c.if-k-le126.false)) (omega (arith, ints, h))
