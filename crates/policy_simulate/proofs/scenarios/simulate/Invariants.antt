use Rattle.std.proofs.Common.{◌≡◌, ◌-◌, [], All}
use Rattle.policy_simulate.specs.Runs.{drawn_from}
use Rattle.policy_simulate.specs.Tracing.{AreKnown, trace_of, traces_on}
use Rattle.policy_simulate.proofs.scenarios.simulate.Given as goal

abbrev pub invariant-loop-scenario : goal.invariant-loop-scenario
invariant-loop-scenario g l = record {
  value : traces_on (trace_of (g.V.Solver.does l.planner.solver.now) l.planner.problem.now l.pools.lists) l.traces l.scenario (drawn_from l.planner.problem.now l.seed l.scenario (l.count - l.scenario)) ≡ traces_on (trace_of (g.V.Solver.does l.planner.solver.now) l.planner.problem.now l.pools.lists) [] 0 (drawn_from l.planner.problem.now l.seed 0 l.count);
  known : All (AreKnown l.planner.problem.now) l.traces;
}
