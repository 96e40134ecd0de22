use Rattle.std.proofs.Common.{arith, ◌∙◌}
use Rattle.std.proofs.lemmas.Int.{ints, to_z-of_z}
use mir.Syntax.{w64, w128}
use Rattle.lp_price.proofs.FarShifts.{far_above, far_below}
use Rattle.lp_price.proofs.shifting.shift_by.Goals as goal

pub returns-then-k-gt1000 : goal.returns-then-k-gt1000
returns-then-k-gt1000 c =
    let h = rw (to_z-of_z w64 c.args.k c.ranges.k) at c.if-k-gt1000.true in
    let e = rw (to_z-of_z w128 c.args.v c.ranges.v) at c.shift.ensures in
    e ∙ far_above c.args.v c.args.k c.ranges.v (omega (arith, ints, h))

pub returns-then-k-ltminus1000 : goal.returns-then-k-ltminus1000
returns-then-k-ltminus1000 c =
    let h = rw (to_z-of_z w64 c.args.k c.ranges.k) at c.if-k-ltminus1000.true in
    let e = rw (to_z-of_z w128 c.args.v c.ranges.v) at c.shift-then-k-ltminus1000.ensures in
    e ∙ far_below c.args.v c.args.k c.ranges.v (omega (arith, ints, h))
