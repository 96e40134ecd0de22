use Rattle.std.proofs.Common.{◌<◌, ◌∙◌, length, arith, ap, sym}
use Rattle.lp_wide_table.specs.Numbers.{sum_of}
use Rattle.lp_wide.proofs.Terms.{share_read, share_added}
use Rattle.lp_wide.proofs.sums.shares.Goals as goal

pub loop-j-preserved : goal.loop-j-preserved
loop-j-preserved c =
    let inside : c.loop-j.j < length c.args.shifts.now = omega (arith, c.requires, c.loop-j-test.true) in
    let read = share_read c.args.line.now c.args.shifts.now c.loop-j.j c.index-line-j.result c.index-shifts-j.result c.loop-j-test.true inside c.index-line-j.is c.index-shifts-j.is in
    share_added _ c.args.line.now c.args.shifts.now c.loop-j.j c.loop-j.sum c.in_ok-sum.sum c.loop-j-test.true inside (ap (sum_of c.loop-j.sum) (sym read) ∙ sym c.in_ok-sum.ensures) c.loop-j.invariant
