use Rattle.std.proofs.Common.{◌≡◌, ◌∙◌, ◌+◌, true, ap, ℤ, List, Result, get_or, drop, ap₂, sym, subst, arith}
use Rattle.problem.specs.Validated.{Validated, is_validated}
use Rattle.theory.specs.Problem.{S}
use Rattle.theory.specs.Tree.{times_all}
use Rattle.theory.specs.View.{problem_of}
use Rattle.plan_answer.specs.declared.classifying.Infeasibility.{Infeasibility}
use Rattle.plan_draw.specs.declared.steps.PathStep.{PathStep}
use Rattle.plan_forward.specs.declared.deciding.Decided.{Decided}
use Rattle.plan_forward.specs.Walking.{decide_step, trajectory_of, walk_on}
use Rattle.plan_forward.proofs.Arcs.{path_short}
use Rattle.plan_forward.proofs.Walks.{ComesTo, comes_first, comes_here, comes_next, ends, goes_on, one_more, walk_is}
use Rattle.plan_forward.proofs.forward_pass.forward_pass.Goals as goal

pub loop-step-init : goal.loop-step-init
loop-step-init g c =
    let p = c.args.planner.now.problem.now in
    let decide : PathStep → List ℤ → Result Decided Infeasibility = decide_step (g.V.Solver.does c.args.planner.now.solver.now) p c.args.pools.now.lists c.args.run in
    let validated = subst (λ (q : Validated). is_validated q ≡ true) c.problem-problem.ensures c.parts.ensures.validated in
    let initial = c.in_ok-state.ensures ∙ ap (λ (q : Validated). times_all S (problem_of q).initial) c.problem-problem.ensures in
    record {
      value = ap₂ (λ (xs : List (List ℤ)) (x : List ℤ). walk_on decide (record { states = xs; unanswered = 0 }) x c.args.path.now) c.new.ensures initial;
      comes = subst (λ (x : List ℤ). ComesTo p c.args.path.now x) (sym initial) (comes_first p c.args.path.now validated c.requires.path);
      few = omega arith;
    }

pub step_on-requires-clause-room : goal.step_on-requires-clause-room
step_on-requires-clause-room g c =
    let validated = subst (λ (q : Validated). is_validated q ≡ true) c.problem-problem.ensures c.parts.ensures.validated in
    omega (arith, c.loop-step.invariant.few, c.loop-step-test.true, path_short c.args.planner.now.problem.now c.args.path.now validated c.requires.path)

pub loop-step-preserved : goal.loop-step-preserved
loop-step-preserved g c =
    let p = c.args.planner.now.problem.now in
    let path : List PathStep = c.args.path.now in
    let v = g.V.Solver.does c.args.planner.now.solver.now in
    let decide : PathStep → List ℤ → Result Decided Infeasibility = decide_step v p c.args.pools.now.lists c.args.run in
    let d : PathStep = record { node = 0; realization = 0 } in
    let here = comes_here p path c.loop-step.step-index d c.loop-step.progress.state c.loop-step-test.true c.loop-step.invariant.comes in
    record {
      value = goes_on decide path c.loop-step.step-index d c.loop-step.progress.trajectory c.loop-step.progress.state _ c.loop-step-test.true c.loop-step.invariant.value c.step_on.new.progress.trajectory c.step_on.new.progress.state c.in_ok-step_on.ensures.value;
      comes = comes_next p (get_or path c.loop-step.step-index d) (drop (c.loop-step.step-index + 1) path) c.loop-step.progress.state c.step_on.new.progress.state here c.in_ok-step_on.ensures.next;
      few = one_more decide c.loop-step.progress.trajectory c.loop-step.progress.state (get_or path c.loop-step.step-index d) c.step_on.new.progress.trajectory c.step_on.new.progress.state c.loop-step.step-index c.in_ok-step_on.ensures.value c.loop-step.invariant.few;
    }

pub returns-clause-count : goal.returns-clause-count
unfolding trajectory_of
returns-clause-count g c =
    let v = g.V.Solver.does c.args.planner.now.solver.now in
    let p = c.args.planner.now.problem.now in
    let validated = subst (λ (q : Validated). is_validated q ≡ true) c.problem-problem.ensures c.parts.ensures.validated in
    (walk_is v p c.args.pools.now.lists c.args.run validated c.args.path.now c.loop-step.progress.trajectory c.requires.path
    (ends _ c.args.path.now c.loop-step.step-index c.loop-step.progress.trajectory c.loop-step.progress.state _ (omega (arith, c.loop-step-test.false)) c.loop-step.invariant.value)).count

pub returns-clause-inside : goal.returns-clause-inside
unfolding trajectory_of
returns-clause-inside g c =
    let v = g.V.Solver.does c.args.planner.now.solver.now in
    let p = c.args.planner.now.problem.now in
    let validated = subst (λ (q : Validated). is_validated q ≡ true) c.problem-problem.ensures c.parts.ensures.validated in
    (walk_is v p c.args.pools.now.lists c.args.run validated c.args.path.now c.loop-step.progress.trajectory c.requires.path
    (ends _ c.args.path.now c.loop-step.step-index c.loop-step.progress.trajectory c.loop-step.progress.state _ (omega (arith, c.loop-step-test.false)) c.loop-step.invariant.value)).inside
