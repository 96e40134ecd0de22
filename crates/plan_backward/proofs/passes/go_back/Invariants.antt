use Rattle.std.proofs.Common.{◌≡◌, ◌+◌, ◌*◌, ◌<◌, ◌≤◌, ◌^◌, All, Ok, length, take, drop, zip}
use Rattle.theory.specs.Pools.{pool, Sound}
use Rattle.theory.specs.View.{problem_of}
use Rattle.cut_pool.specs.AtNodes.{PoolsFit}
use Rattle.cut_pool.specs.declared.entry.EntryStep.{EntryStep}
use Rattle.plan_draw.specs.declared.steps.PathStep.{PathStep}
use Rattle.plan_backward.specs.Sweeping.{backwards, seen, step_back, taken_back}
use Rattle.plan_backward.proofs.passes.go_back.Given as goal

abbrev pub decreases-loop-left : goal.decreases-loop-left
decreases-loop-left g l = l.left

abbrev pub invariant-loop-left : goal.invariant-loop-left
invariant-loop-left g l = record {
  value : backwards (step_back (g.V.Solver.does l.planner.solver.now) l.planner.problem.now l.initial.entry.iteration) (drop l.left (zip l.pass.path.now l.pass.trajectory.now.states)) (seen l.initial.pools.lists l.initial.entry) ≡ Ok (seen l.pools.lists l.entry);
  before : taken_back l.pools.lists l.entry.steps ≡ l.initial.pools.lists;
  known : All (λ (s : EntryStep). s.node < length l.planner.problem.now.parts.nodes) l.entry.steps;
  fit : PoolsFit l.planner.problem.now l.pools.lists;
  sound : Sound (problem_of l.planner.problem.now) l.initial.pools.lists → Sound (problem_of l.planner.problem.now) l.pools.lists;
  few : All (λ (s : PathStep). length (pool l.pools.lists s.node) < 2 ^ 24) (take l.left l.pass.path.now);
  room : l.entry.unanswered + 100 * l.left ≤ 1000 + 100 * length l.pass.path.now;
  within : l.left ≤ length l.pass.path.now;
  iteration : l.entry.iteration ≡ l.initial.entry.iteration;
}
