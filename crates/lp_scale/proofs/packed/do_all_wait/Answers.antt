use Rattle.std.proofs.Common.{arith, sym, ◌∙◌}
use Rattle.lp_scale.proofs.Waits.{wait_more}
use Rattle.lp_scale.proofs.packed.do_all_wait.Goals as goal

pub loop-k-preserved : goal.loop-k-preserved
loop-k-preserved c = λ tail. c.loop-k.invariant (wait_more c.args.waiting.now c.args.view.now.outs c.args.view.now.first c.loop-k.k c.args.view.now.cuts (omega (arith, c.loop-k-test.true, c.len-k-end.ensures)) (sym c.waits_at.ensures ∙ c.if-not-waits_at.false) tail)
