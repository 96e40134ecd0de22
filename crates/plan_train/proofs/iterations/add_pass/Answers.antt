use Rattle.std.proofs.Common.{◌≡◌, true, refl, sym, subst, ◌∙◌, arith}
use Rattle.problem.specs.Validated.{Validated, is_validated}
use Rattle.plan_forward.proofs.Arcs.{path_short}
use Rattle.plan_train.proofs.Growing.{extends_swept}
use Rattle.plan_train.proofs.iterations.add_pass.Goals as goal

pub backward_pass-requires-clause-unanswered : goal.backward_pass-requires-clause-unanswered
backward_pass-requires-clause-unanswered g c κs within =
    let validated = subst (λ (p : Validated). is_validated p ≡ true) c.problem.ensures c.parts.ensures.validated in
    let short = path_short c.args.planner.now.problem.now c.args.pass.now.path.now validated c.requires.path in
    omega (arith, short, c.requires.walk.unanswered)

pub returns-in_err-push-clause-extends : goal.returns-in_err-push-clause-extends
returns-in_err-push-clause-extends g c =
    extends_swept (g.V.Solver.does c.args.planner.now.solver.now)
    c.args.planner.now.problem.now c.args.pools.now.lists c.backward_pass.new.pools.lists c.args.pass.now.iteration c.args.pass.now.path.now c.args.pass.now.trajectory.now.states c.args.pass.now.trajectory.now.unanswered _ c.in_ok-entry.ensures.value refl
    (c.in_ok-entry.ensures.fit.lists ∙ sym c.requires.fit.lists) c.in_ok-entry.ensures.grown

pub returns-clause-extends : goal.returns-clause-extends
returns-clause-extends g c =
    extends_swept (g.V.Solver.does c.args.planner.now.solver.now)
    c.args.planner.now.problem.now c.args.pools.now.lists c.backward_pass.new.pools.lists c.args.pass.now.iteration c.args.pass.now.path.now c.args.pass.now.trajectory.now.states c.args.pass.now.trajectory.now.unanswered _ c.in_ok-entry.ensures.value refl
    (c.in_ok-entry.ensures.fit.lists ∙ sym c.requires.fit.lists) c.in_ok-entry.ensures.grown
