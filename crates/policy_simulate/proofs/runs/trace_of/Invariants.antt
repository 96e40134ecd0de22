use Rattle.std.proofs.Common.{◌≡◌, ◌*◌, ◌≤◌, ◌^◌, drop, nat_abs}
use Rattle.theory.specs.Problem.{S}
use Rattle.theory.specs.Tree.{times_all}
use Rattle.theory.specs.View.{problem_of}
use Rattle.policy_simulate.specs.Tracing.{AreKnown, decide_at, no_trace, trace_on}
use Rattle.policy_simulate.proofs.Following.{ComesTo}
use Rattle.policy_simulate.proofs.runs.trace_of.Given as goal

abbrev pub invariant-loop-moment : goal.invariant-loop-moment
invariant-loop-moment g l = record {
  value : trace_on l.planner.problem.now (decide_at (g.V.Solver.does l.planner.solver.now) l.planner.problem.now l.pools.lists l.fn.run) l.progress.trace l.progress.state (drop l.moment-index l.moments) ≡ trace_on l.planner.problem.now (decide_at (g.V.Solver.does l.planner.solver.now) l.planner.problem.now l.pools.lists l.fn.run) no_trace (times_all S (problem_of l.planner.problem.now).initial) l.moments;
  comes : ComesTo l.planner.problem.now (drop l.moment-index l.moments) l.progress.state;
  known : AreKnown l.planner.problem.now l.progress.trace;
  small : nat_abs l.progress.trace.cost ≤ l.moment-index * 2 ^ 115;
}
