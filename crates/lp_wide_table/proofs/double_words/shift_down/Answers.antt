use Rattle.std.proofs.Common.{arith}
use Rattle.std.proofs.lemmas.Int.{ints, to_z-of_z}
use mir.Syntax.{w128}
use Rattle.lp_wide_table.proofs.Shifts.{shifted_away, shifted_to_one}
use Rattle.lp_wide_table.proofs.double_words.shift_down.Goals as goal

pub returns-then-a-lt0 : goal.returns-then-a-lt0
returns-then-a-lt0 c =
    let h = rw (to_z-of_z w128 c.args.a c.ranges.a) at c.if-a-lt0.true in
    shifted_to_one c.args.a c.args.k c.ranges.a (omega (arith, c.if-k-le127.false)) (omega (arith, ints, h))

pub returns-else-a-lt0 : goal.returns-else-a-lt0
returns-else-a-lt0 c =
    let h = rw (to_z-of_z w128 c.args.a c.ranges.a) at c.if-a-lt0.false in
    shifted_away c.args.a c.args.k c.ranges.a (omega (arith, c.if-k-le127.false)) (omega (arith, ints, h))
