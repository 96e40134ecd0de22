use Rattle.std.proofs.Common.{subst, arith}
use Rattle.plan_mend.specs.Stages.{IsWithout}
use Rattle.plan_mend.proofs.Untouched.{without_more}
use Rattle.plan_mend.proofs.stage.has_term.Goals as goal

pub loop-k-preserved : goal.loop-k-preserved
loop-k-preserved c = without_more c.args.at c.terms_at-terms.result.now c.loop-k.k c.loop-k-test.true c.loop-k.invariant c.if-terms-k.false

pub returns : goal.returns
returns c = λ _. subst (IsWithout c.args.at) c.terms_at-terms.ensures (λ k d l. c.loop-k.invariant k d (let m = c.loop-k-test.false in omega (arith, l, m)))
