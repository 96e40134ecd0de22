use Rattle.std.proofs.Common.{◌≡◌, true, List, sym, subst}
use Rattle.problem.specs.Validated.{Validated, is_validated}
use Rattle.theory.specs.declared.cut.Certificate.{Certificate}
use Rattle.theory.specs.Certificates.{Right}
use Rattle.theory.specs.Problem.{node_at}
use Rattle.theory.specs.View.{problem_of}
use Rattle.cut_check.proofs.Fitting.{fit_for-fit}
use Rattle.plan_backward.proofs.Cuts.{settled_list}
use Rattle.plan_backward.proofs.steps_back.made_at.Goals as goal

pub cut_of-requires-clause-right : goal.cut_of-requires-clause-right
cut_of-requires-clause-right g c = λ κs outlives.
    let here = c.args.here.now in
    let validated = subst (λ (p : Validated). is_validated p ≡ true) c.problem.ensures c.parts.ensures.validated in
    subst (λ (l : List Certificate). Right here.pools.now.lists (node_at (problem_of here.planner.now.problem.now) here.node) l) (sym c.as_slice.ensures)
    (settled_list (g.V.Solver.does here.planner.now.solver.now) here.planner.now.problem.now here.pools.now.lists here.iteration here.node here.state.now c.in_ok-found.found validated c.requires.known c.requires.fit c.in_ok-found.ensures.value)

pub cut_of-requires-clause-fit : goal.cut_of-requires-clause-fit
cut_of-requires-clause-fit g c = λ κs outlives.
    let here = c.args.here.now in
    let validated = subst (λ (p : Validated). is_validated p ≡ true) c.problem.ensures c.parts.ensures.validated in
    fit_for-fit here.planner.now.problem.now here.pools.now.lists here.node validated c.requires.known c.requires.fit
