use Rattle.std.proofs.Common.{arith}
use Rattle.lp_scan.proofs.Rewritten.{one_more, all_set}
use Rattle.lp_scan.proofs.refilled.set_all.Goals as goal

pub loop-k-preserved : goal.loop-k-preserved
loop-k-preserved g c = one_more c.args.item c.args.items.now c.loop-k.items c.loop-k.k c.loop-k-test.true c.loop-k.invariant

pub returns : goal.returns
returns g c = all_set c.args.item c.args.items.now c.loop-k.items c.loop-k.k (omega (arith, c.loop-k-test.false, c.loop-k.auto.k-end)) c.loop-k.invariant
