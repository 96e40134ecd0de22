use Rattle.std.proofs.Common.{arith, subst, sym}
use Rattle.std.proofs.lemmas.Result.{err_from_is_err_and}
use Rattle.policy_robust.specs.RiskCuts.{risk_step_added}
use Rattle.policy_robust.proofs.Each.{each_more, each_stops, each_done}
use Rattle.policy_robust.proofs.Adding.{KnownStep, step_fit}
use Rattle.policy_robust.proofs.risk_cuts.add_steps.Goals as goal

pub returns-in_err-add_step : goal.returns-in_err-add_step
returns-in_err-add_step c =
    let l = c.loop-step in
    let e = err_from_is_err_and c.from_residual.result c.from_residual.ensures.1 in
    rw (e.1, e.2) (each_stops (risk_step_added c.args.problem.now c.args.alternatives.now c.args.iteration) l.risk_cuts.lists c.args.steps.now l.step-index c.step-item.result _ c.loop-step-test.true c.step-item.is l.invariant.so_far c.in_err-add_step.field-0.0 c.in_err-add_step.ensures)

pub loop-step-preserved : goal.loop-step-preserved
loop-step-preserved c =
    let l = c.loop-step in
    let known = subst (KnownStep c.args.problem.now) (sym c.step-item.is) (c.requires.known l.step-index c.step-item.result c.loop-step-test.true) in
    record {
      so_far = each_more (risk_step_added c.args.problem.now c.args.alternatives.now c.args.iteration) l.risk_cuts.lists c.args.steps.now l.step-index c.step-item.result _ c.loop-step-test.true c.step-item.is l.invariant.so_far c.add_step.new.risk_cuts.lists c.in_ok-add_step.ensures;
      fit = step_fit c.args.problem.now c.args.alternatives.now c.parts.ensures.validated c.requires.listed c.args.iteration l.risk_cuts.lists c.add_step.new.risk_cuts.lists c.step-item.result known l.invariant.fit c.in_ok-add_step.ensures;
    }

pub returns : goal.returns
returns c = let l = c.loop-step in each_done (risk_step_added c.args.problem.now c.args.alternatives.now c.args.iteration) l.risk_cuts.lists c.args.steps.now l.step-index _ (omega (arith, c.loop-step-test.false)) l.invariant.so_far
