use Rattle.std.proofs.Common.{◌≡◌, ◌∙◌, true, Result, refl, sym, subst}
use Rattle.problem.specs.Validated.{Validated, is_validated}
use Rattle.plan_answer.specs.declared.plan_fault.PlanFault.{PlanFault}
use Rattle.plan_answer.specs.Faults.{Stops}
use Rattle.plan_backward.specs.Sweeping.{Swept, seen}
use Rattle.plan_backward.proofs.Grown.{grown-swept, others-swept}
use Rattle.plan_backward.proofs.PathNodes.{distinct-path, short-path}
use Rattle.plan_backward.proofs.StepsBack.{infeasible_swept, swept-by}
use Rattle.plan_backward.proofs.passes.backward_pass.Goals as goal

pub go_back-requires-clause-distinct : goal.go_back-requires-clause-distinct
go_back-requires-clause-distinct g c κs within = distinct-path c.args.planner.now.problem.now (subst (λ (p : Validated). is_validated p ≡ true) c.problem.ensures c.parts.ensures.validated) c.args.pass.now.path.now c.requires.path.follows

pub go_back-requires-clause-short : goal.go_back-requires-clause-short
go_back-requires-clause-short g c κs within = short-path c.args.planner.now.problem.now (subst (λ (p : Validated). is_validated p ≡ true) c.problem.ensures c.parts.ensures.validated) c.args.pass.now.path.now c.requires.path.follows c.requires.path.in_range

pub returns-in-Ok-clause-value : goal.returns-in-Ok-clause-value
returns-in-Ok-clause-value g c =
    swept-by (g.V.Solver.does c.args.planner.now.solver.now) c.args.planner.now.problem.now c.args.pass.now.iteration c.args.pools.now.lists c.args.pass.now.path.now c.args.pass.now.trajectory.now.states c.args.pass.now.trajectory.now.states c.take.result c.args.pass.now.trajectory.now.unanswered refl c.take.ensures
    ∙ c.in-Ok.ensures.value

pub returns-in-Err-clause-value : goal.returns-in-Err-clause-value
returns-in-Err-clause-value g c =
    subst (λ (r : Result Swept PlanFault). Stops c.in-Err.fault r)
    (sym (swept-by (g.V.Solver.does c.args.planner.now.solver.now) c.args.planner.now.problem.now c.args.pass.now.iteration c.args.pools.now.lists c.args.pass.now.path.now c.args.pass.now.trajectory.now.states c.args.pass.now.trajectory.now.states c.take.result c.args.pass.now.trajectory.now.unanswered refl c.take.ensures))
    c.in-Err.ensures.value

pub returns-in-Err-clause-infeasible : goal.returns-in-Err-clause-infeasible
returns-in-Err-clause-infeasible g c =
    infeasible_swept (g.V.Solver.does c.args.planner.now.solver.now) c.args.planner.now.problem.now c.args.pass.now.iteration c.args.pools.now.lists c.args.pass.now.path.now c.args.pass.now.trajectory.now.states c.args.pass.now.trajectory.now.unanswered c.in-Err.fault
    (returns-in-Err-clause-value g c)

pub returns-in-Ok-clause-grown : goal.returns-in-Ok-clause-grown
returns-in-Ok-clause-grown g c = λ m.
    grown-swept (g.V.Solver.does c.args.planner.now.solver.now) c.args.planner.now.problem.now c.args.pass.now.iteration c.args.pools.now.lists c.args.pass.now.path.now c.args.pass.now.trajectory.now.states c.args.pass.now.trajectory.now.unanswered (seen c.go_back.new.pools.lists c.go_back.new.entry) m
    (distinct-path c.args.planner.now.problem.now (subst (λ (p : Validated). is_validated p ≡ true) c.problem.ensures c.parts.ensures.validated) c.args.pass.now.path.now c.requires.path.follows) (returns-in-Ok-clause-value g c)

pub returns-in-Ok-clause-others : goal.returns-in-Ok-clause-others
returns-in-Ok-clause-others g c = λ m none.
    others-swept (g.V.Solver.does c.args.planner.now.solver.now) c.args.planner.now.problem.now c.args.pass.now.iteration c.args.pools.now.lists c.args.pass.now.path.now c.args.pass.now.trajectory.now.states c.args.pass.now.trajectory.now.unanswered (seen c.go_back.new.pools.lists c.go_back.new.entry) m
    (returns-in-Ok-clause-value g c) none
