use Rattle.std.proofs.Common.{◌≡◌, ◌∙◌, ◌+◌, ◌-◌, ℕ, List, Result, ap, sym}
use Rattle.std.proofs.lemmas.Result.{err_from_is_err_and}
use Rattle.problem.specs.declared.parts.Moment.{Moment}
use Rattle.problem.specs.Validated.{Validated}
use Rattle.plan_answer.specs.declared.classifying.Infeasibility.{Infeasibility}
use Rattle.plan_forward.specs.declared.traces.Trace.{Trace}
use Rattle.plan_forward.proofs.ByAnswers.{fails_on}
use Rattle.policy_simulate.specs.Runs.{drawn, drawn_from}
use Rattle.policy_simulate.specs.Tracing.{trace_of, traces_of}
use Rattle.policy_simulate.proofs.Numbering.{all_known, next_drawn, one_more, one_stops}
use Rattle.policy_simulate.proofs.scenarios.simulate.Goals as goal

pub returns-in_err-trace_of-clause-value : goal.returns-in_err-trace_of-clause-value
returns-in_err-trace_of-clause-value g c =
    let p = c.args.planner.now.problem.now in
    let i : ℕ = c.loop-scenario.scenario in
    let v = g.V.Solver.does c.args.planner.now.solver.now in
    let trace : ℕ → List Moment → Result Trace Infeasibility = trace_of v p c.args.pools.now.lists in
    let run : List Moment = drawn p c.args.seed i in
    let is : c.as_slice.result.now ≡ run = c.as_slice.ensures ∙ c.in_ok-run.ensures.value ∙ ap (λ (q : Validated). drawn q c.args.seed i) c.problem.ensures in
    let whole : Result (List Trace) Infeasibility = traces_of v p c.args.pools.now.lists (drawn_from p c.args.seed 0 c.args.count) in
    let e = err_from_is_err_and c.from_residual-in_err-trace_of.result c.from_residual-in_err-trace_of.ensures.1 in
    rw (e.1, e.2) (fails_on c.in_err-trace_of.field-0.0 (trace i c.as_slice.result.now) whole
    (λ d stopped. one_stops trace c.loop-scenario.traces i run (drawn_from p c.args.seed i (c.args.count - i)) (drawn_from p c.args.seed (i + 1) (c.args.count - (i + 1))) whole (next_drawn p c.args.seed i c.args.count c.loop-scenario-test.true) c.loop-scenario.invariant.value d (ap (trace i) (sym is) ∙ stopped)) c.in_err-trace_of.ensures.value)

pub loop-scenario-preserved : goal.loop-scenario-preserved
loop-scenario-preserved g c =
    let p = c.args.planner.now.problem.now in
    let i : ℕ = c.loop-scenario.scenario in
    let v = g.V.Solver.does c.args.planner.now.solver.now in
    let trace : ℕ → List Moment → Result Trace Infeasibility = trace_of v p c.args.pools.now.lists in
    let run : List Moment = drawn p c.args.seed i in
    let is : c.as_slice.result.now ≡ run = c.as_slice.ensures ∙ c.in_ok-run.ensures.value ∙ ap (λ (q : Validated). drawn q c.args.seed i) c.problem.ensures in
    let whole : Result (List Trace) Infeasibility = traces_of v p c.args.pools.now.lists (drawn_from p c.args.seed 0 c.args.count) in
    record {
      value = one_more trace c.loop-scenario.traces i run (drawn_from p c.args.seed i (c.args.count - i)) (drawn_from p c.args.seed (i + 1) (c.args.count - (i + 1))) whole (next_drawn p c.args.seed i c.args.count c.loop-scenario-test.true) c.loop-scenario.invariant.value c.in_ok-trace_of.field-0 c.push.new.self (ap (trace i) (sym is) ∙ c.in_ok-trace_of.ensures.value) c.in_ok-push.ensures;
      known = all_known p c.loop-scenario.traces c.in_ok-trace_of.field-0 c.push.new.self c.loop-scenario.invariant.known c.in_ok-trace_of.ensures.known c.in_ok-push.ensures;
    }
