use Rattle.std.proofs.Common.{◌∙◌, ◌/◌, List, Result, length, ap₂, subst}
use Rattle.problem.specs.Validated.{Validated}
use Rattle.plan_answer.specs.declared.classifying.Infeasibility.{Infeasibility}
use Rattle.plan_draw.specs.declared.steps.PathStep.{PathStep}
use Rattle.plan_draw.specs.declared.steps.Trajectory.{Trajectory}
use Rattle.plan_answer.specs.Faults.{GivesOrRefutes}
use Rattle.plan_forward.specs.Walking.{in_turn, trajectory_of, walks_of}
use Rattle.plan_forward.proofs.EachOf.{each-halves}
use Rattle.plan_forward.proofs.passes.passes_beside.Goals as goal

pub returns : goal.returns
returns g c =
    let p = c.args.planner.now.problem.now in
    let q = c.problem-problem.result.now in
    let pools = c.args.pools.now.lists in
    let v = g.V.Solver.does c.args.planner.now.solver.now in
    let walk : List PathStep → Result Trajectory Infeasibility = trajectory_of v p pools c.args.run in
    let walks : List (List PathStep) → Result (List Trajectory) Infeasibility = walks_of v p pools c.args.run in
    let first = subst (λ (x : Validated). GivesOrRefutes c.join-first.result.0 (walks_of v x pools c.args.run c.split.result.0.now)) c.problem-problem.ensures
    (subst (λ s. GivesOrRefutes c.join-first.result.0 (walks_of (g.V.Solver.does s) q pools c.args.run c.split.result.0.now)) c.solver-solver.ensures c.join-first.ensures.first) in
    let tail = subst (λ (x : Validated). GivesOrRefutes c.join-first.result.1 (walks_of v x pools c.args.run c.split.result.1.now)) c.problem-problem.ensures
    (subst (λ s. GivesOrRefutes c.join-first.result.1 (walks_of (g.V.Solver.does s) q pools c.args.run c.split.result.1.now)) c.solver-solver.ensures c.join-first.ensures.second) in
    subst (λ (r : Result (List Trajectory) Infeasibility). GivesOrRefutes c.in_turn.result r)
    (ap₂ (λ (xs ys : List (List PathStep)). in_turn (walks xs) (walks ys)) c.split.ensures.front c.split.ensures.back ∙ each-halves walk (length c.args.paths.now / 2) c.args.paths.now)
    (c.in_turn.ensures (walks c.split.result.0.now) (walks c.split.result.1.now) first tail)
