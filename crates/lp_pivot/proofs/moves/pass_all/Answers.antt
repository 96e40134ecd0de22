use Rattle.lp_pivot.proofs.Arrivals.{kept_twice, pass_step}
use Rattle.lp_pivot.proofs.moves.pass_all.Goals as goal

pub loop-k-preserved : goal.loop-k-preserved
loop-k-preserved c = record {
  sized = c.pass.ensures.sized;
  kept = kept_twice c.args.table.now c.loop-k.table c.pass.new.table c.loop-k.invariant.kept c.pass.ensures.kept;
  passed = pass_step c.args.table.now c.loop-k.table c.loop-k.invariant.kept c.args.flips.now c.pass.new.table.values c.loop-k.k c.loop-k-test.true c.pass.ensures.passed c.loop-k.invariant.passed;
}
