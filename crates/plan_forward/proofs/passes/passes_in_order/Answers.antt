use Rattle.std.proofs.Common.{◌∙◌, List, Result, ap, sym}
use Rattle.std.proofs.lemmas.Result.{err_from_is_err_and}
use Rattle.plan_answer.specs.declared.classifying.Infeasibility.{Infeasibility}
use Rattle.plan_draw.specs.declared.steps.PathStep.{PathStep}
use Rattle.plan_draw.specs.declared.steps.Trajectory.{Trajectory}
use Rattle.plan_forward.specs.Walking.{each_of, trajectory_of}
use Rattle.plan_forward.proofs.ByAnswers.{fails_on}
use Rattle.plan_forward.proofs.EachOf.{each_more, each_stops}
use Rattle.plan_forward.proofs.passes.passes_in_order.Goals as goal

pub returns-in_err-forward_pass : goal.returns-in_err-forward_pass
returns-in_err-forward_pass g c =
    let walk : List PathStep → Result Trajectory Infeasibility = trajectory_of (g.V.Solver.does c.args.planner.now.solver.now) c.args.planner.now.problem.now c.args.pools.now.lists c.args.run in
    let p = err_from_is_err_and c.from_residual.result c.from_residual.ensures.1 in
    rw (p.1, p.2) (fails_on c.in_err-forward_pass.field-0.0 (walk c.as_slice.result.now) (each_of walk c.args.paths.now)
    (λ d e. each_stops walk c.args.paths.now c.loop-path.path-index c.path-item.result c.loop-path.found d c.loop-path-test.true c.loop-path.invariant (ap walk (sym (c.as_slice.ensures ∙ c.path-item.is)) ∙ e)) c.in_err-forward_pass.ensures.value)

pub loop-path-preserved : goal.loop-path-preserved
loop-path-preserved g c =
    let walk : List PathStep → Result Trajectory Infeasibility = trajectory_of (g.V.Solver.does c.args.planner.now.solver.now) c.args.planner.now.problem.now c.args.pools.now.lists c.args.run in
    each_more walk c.args.paths.now c.loop-path.path-index c.path-item.result c.loop-path.found c.push.new.self c.in_ok-forward_pass.field-0 c.loop-path-test.true c.loop-path.invariant
    (ap walk (sym (c.as_slice.ensures ∙ c.path-item.is)) ∙ c.in_ok-forward_pass.ensures.value) c.in_ok-push.ensures
