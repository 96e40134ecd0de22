use Rattle.std.proofs.Common.{◌+◌, ◌*◌, ℕ, subst, arith}
use Rattle.plan_train.specs.Growing.{ExtendsPools}
use Rattle.plan_train.proofs.Growing.{extends_then}
use Rattle.run_worker.proofs.ahead.answer_all.Goals as goal

pub loop-done-preserved : goal.loop-done-preserved
loop-done-preserved g c =
    let l = c.loop-done in
    let b = c.args.stretch.batch in
    record {
      extends = subst (λ (n : ℕ). ExtendsPools n c.args.pools.now.lists c.answer.new.pools.lists) (omega arith) (extends_then (l.done * b) b c.args.pools.now.lists l.pools.lists c.answer.new.pools.lists l.invariant.extends c.in_ok-answer.ensures.extends);
      fit = c.in_ok-answer.ensures.fit;
    }
