use Rattle.std.proofs.Common.{arith, subst, sym}
use Rattle.std.proofs.lemmas.Result.{err_from_is_err_and}
use Rattle.journal_load.proofs.Adding.{Known}
use Rattle.journal_load.proofs.Loops.{step_fails, step_more, steps_done}
use Rattle.journal_load.proofs.cuts.add_steps.Goals as goal

pub returns-in_err-add_cut-clause-value : goal.returns-in_err-add_cut-clause-value
returns-in_err-add_cut-clause-value c =
    let l = c.loop-step in
    let e = err_from_is_err_and c.from_residual.result c.from_residual.ensures.1 in
    rw (e.1, e.2) (step_fails c.args.problem.now c.args.iteration c.args.pools.now.lists c.args.steps.now l.step-index l.pools.lists c.loop-step-test.true c.step-item.result c.step-item.is l.invariant.0 c.in_err-add_cut.field-0.0 c.in_err-add_cut.ensures.value)

pub loop-step-preserved : goal.loop-step-preserved
loop-step-preserved c =
    let l = c.loop-step in
    let left = step_more c.args.problem.now c.args.iteration c.args.pools.now.lists c.args.steps.now l.step-index l.pools.lists c.loop-step-test.true c.step-item.result c.step-item.is l.invariant.0 c.parts.ensures.validated
    (subst (Known c.args.problem.now) (sym c.step-item.is) (c.requires.known l.step-index c.step-item.result c.loop-step-test.true)) c.add_cut.new.pools.lists c.in_ok-add_cut.ensures.value in
    (left, c.in_ok-add_cut.ensures.values)

pub returns-clause-value : goal.returns-clause-value
returns-clause-value c = let l = c.loop-step in steps_done c.args.problem.now c.args.iteration c.args.pools.now.lists c.args.steps.now l.step-index l.pools.lists (omega (arith, c.loop-step-test.false)) l.invariant.0
