use Rattle.std.proofs.Common.{◌≡◌, ◌≤◌, drop}
use Rattle.theory.specs.Problem.{S}
use Rattle.theory.specs.Tree.{times_all}
use Rattle.theory.specs.View.{problem_of}
use Rattle.plan_forward.specs.Walking.{decide_step, no_walk, walk_on}
use Rattle.plan_forward.proofs.Walks.{ComesTo}
use Rattle.plan_forward.proofs.forward_pass.forward_pass.Given as goal

abbrev pub invariant-loop-step : goal.invariant-loop-step
invariant-loop-step g l = record {
  value : walk_on (decide_step (g.V.Solver.does l.planner.solver.now) l.planner.problem.now l.pools.lists l.fn.run) l.progress.trajectory l.progress.state (drop l.step-index l.path) ≡ walk_on (decide_step (g.V.Solver.does l.planner.solver.now) l.planner.problem.now l.pools.lists l.fn.run) no_walk (times_all S (problem_of l.planner.problem.now).initial) l.path;
  comes : ComesTo l.planner.problem.now (drop l.step-index l.path) l.progress.state;
  few : l.progress.trajectory.unanswered ≤ l.step-index;
}
