use Rattle.std.proofs.Common.{◌≡◌, ◌∙◌, true, ap, ◌+◌, ℤ, pos, List, Result, Ok, drop, ap₂, sym, subst, arith}
use Rattle.problem.specs.declared.parts.Moment.{Moment}
use Rattle.problem.specs.Validated.{Validated, is_validated}
use Rattle.plan_answer.specs.declared.classifying.Infeasibility.{Infeasibility}
use Rattle.plan_forward.specs.declared.deciding.Decided.{Decided}
use Rattle.plan_forward.specs.declared.traces.Trace.{Trace}
use Rattle.plan_forward.specs.declared.traces.TraceStep.{TraceStep}
use Rattle.theory.specs.Problem.{S}
use Rattle.theory.specs.Tree.{times_all}
use Rattle.theory.specs.View.{problem_of}
use Rattle.policy_simulate.specs.Tracing.{decide_at, no_trace, traced_step_on, trace_on}
use Rattle.policy_simulate.proofs.Following.{ComesTo, IsHere, comes_first, comes_here, comes_next, run_short}
use Rattle.policy_simulate.proofs.Tracing.{goes_on, known_none, known_step}
use Rattle.policy_simulate.proofs.runs.trace_of.Goals as goal

pub loop-moment-init : goal.loop-moment-init
loop-moment-init g c =
    let p = c.args.planner.now.problem.now in
    let decide : Moment → List ℤ → Result Decided Infeasibility = decide_at (g.V.Solver.does c.args.planner.now.solver.now) p c.args.pools.now.lists c.args.run in
    let validated = subst (λ (q : Validated). is_validated q ≡ true) c.problem-problem.ensures c.parts.ensures.validated in
    let initial = c.in_ok-state.ensures ∙ ap (λ (q : Validated). times_all S (problem_of q).initial) c.problem-problem.ensures in
    record {
      value = ap₂ (λ (steps : List TraceStep) (x : List ℤ). trace_on p decide (record { steps = steps; cost = pos 0 }) x c.args.moments.now) c.new.ensures initial;
      comes = subst (λ (x : List ℤ). ComesTo p c.args.moments.now x) (sym initial) (comes_first p c.args.moments.now validated c.requires.run);
      known = known_none p c.new.result c.new.ensures;
      small = omega arith;
    }

pub step_on-requires-clause-known : goal.step_on-requires-clause-known
step_on-requires-clause-known g c κs within = (comes_here c.args.planner.now.problem.now c.args.moments.now c.loop-moment.moment-index c.moment-item.result c.loop-moment.progress.state c.loop-moment-test.true c.moment-item.is c.loop-moment.invariant.comes).known

pub step_on-requires-clause-values : goal.step_on-requires-clause-values
step_on-requires-clause-values g c κs within = (comes_here c.args.planner.now.problem.now c.args.moments.now c.loop-moment.moment-index c.moment-item.result c.loop-moment.progress.state c.loop-moment-test.true c.moment-item.is c.loop-moment.invariant.comes).values

pub step_on-requires-clause-state : goal.step_on-requires-clause-state
step_on-requires-clause-state g c κs within = (comes_here c.args.planner.now.problem.now c.args.moments.now c.loop-moment.moment-index c.moment-item.result c.loop-moment.progress.state c.loop-moment-test.true c.moment-item.is c.loop-moment.invariant.comes).inside

pub step_on-requires-clause-room : goal.step_on-requires-clause-room
step_on-requires-clause-room g c κs within =
    let validated = subst (λ (q : Validated). is_validated q ≡ true) c.problem-problem.ensures c.parts.ensures.validated in
    omega (arith, c.loop-moment.invariant.small, c.loop-moment-test.true, run_short c.args.planner.now.problem.now c.args.moments.now validated c.requires.run)

pub loop-moment-preserved : goal.loop-moment-preserved
loop-moment-preserved g c =
    let p = c.args.planner.now.problem.now in
    let run : List Moment = c.args.moments.now in
    let tail : List Moment = drop (c.loop-moment.moment-index + 1) run in
    let v = g.V.Solver.does c.args.planner.now.solver.now in
    let decide : Moment → List ℤ → Result Decided Infeasibility = decide_at v p c.args.pools.now.lists c.args.run in
    let here : IsHere p c.moment-item.result tail c.loop-moment.progress.state = comes_here c.args.planner.now.problem.now c.args.moments.now c.loop-moment.moment-index c.moment-item.result c.loop-moment.progress.state c.loop-moment-test.true c.moment-item.is c.loop-moment.invariant.comes in
    let whole : Result Trace Infeasibility = trace_on p decide no_trace (times_all S (problem_of p).initial) run in
    record {
      value = goes_on p decide run c.loop-moment.moment-index c.moment-item.result c.loop-moment.progress.trace c.loop-moment.progress.state whole c.loop-moment-test.true c.loop-moment.invariant.value c.step_on.new.progress.trace c.step_on.new.progress.state
          (subst (λ (m : Moment). traced_step_on p decide c.loop-moment.progress.trace c.loop-moment.progress.state m ≡ Ok (c.step_on.new.progress.trace, c.step_on.new.progress.state)) c.moment-item.is c.in_ok-step_on.ensures.value);
      comes = comes_next p c.moment-item.result tail c.loop-moment.progress.state c.step_on.new.progress.state here c.in_ok-step_on.ensures.next;
      known = known_step p decide c.loop-moment.progress.trace c.loop-moment.progress.state c.moment-item.result c.step_on.new.progress.trace c.step_on.new.progress.state here.known c.in_ok-step_on.ensures.value c.loop-moment.invariant.known;
      small = omega (arith, c.loop-moment.invariant.small, c.in_ok-step_on.ensures.small);
    }
