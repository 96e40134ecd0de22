use Rattle.std.proofs.Common.{◌++◌, length, refl}
use Rattle.lp_program.specs.Duals.{dual_in, not_zero}
use Rattle.plan_answer.specs.SharedTargets.{kept_pairs, left_over}
use Rattle.plan_answer.proofs.SettledSteps.{one_listed}
use Rattle.plan_answer.proofs.settling.keep_listed.Goals as goal

pub loop-k-preserved : goal.loop-k-preserved
loop-k-preserved c =
    one_listed c.loop-k.pairs c.keep.new.pairs c.loop-k.left c.in_ok-left.left c.loop-k.k c.args.duals.now _ (c.args.pairs.now ++ kept_pairs c.args.target (not_zero (dual_in c.args.duals.now) 0 (length c.args.duals.now))) (left_over c.args.target (not_zero (dual_in c.args.duals.now) 0 (length c.args.duals.now))) c.loop-k-test.true refl c.in_ok-left.ensures.pairs c.in_ok-left.ensures.left c.loop-k.invariant
