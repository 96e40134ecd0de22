use Rattle.std.proofs.Common.{◌++◌}
use Rattle.lp_program.specs.Numbers.{zero_fx}
use Rattle.lp_program.specs.Duals.{all_kept}
use Rattle.plan_answer.specs.SharedTargets.{kept_pairs, left_over}
use Rattle.plan_answer.proofs.SettledSteps.{one_stored}
use Rattle.plan_answer.proofs.settling.keep_stored.Goals as goal

pub loop-i-preserved : goal.loop-i-preserved
loop-i-preserved c =
    one_stored c.loop-i.pairs c.keep_within.new.pairs c.loop-i.left c.in_ok-left.left c.loop-i.i c.args.stored.now (0, zero_fx) c.args.from c.args.count (c.args.pairs.now ++ kept_pairs c.args.target (all_kept c.args.from c.args.count c.args.stored.now)) (left_over c.args.target (all_kept c.args.from c.args.count c.args.stored.now)) c.loop-i-test.true c.in_ok-left.ensures.pairs c.in_ok-left.ensures.left c.loop-i.invariant
