use Rattle.std.proofs.Common.{◌≡◌, [], drop, All}
use Rattle.policy_simulate.specs.Tracing.{AreKnown, trace_of, traces_on}
use Rattle.policy_simulate.proofs.scenarios.validate.Given as goal

abbrev pub invariant-loop-scenario : goal.invariant-loop-scenario
invariant-loop-scenario g l = record {
  value : traces_on (trace_of (g.V.Solver.does l.planner.solver.now) l.planner.problem.now l.pools.lists) l.traces l.scenario (drop l.scenario l.scenarios) ≡ traces_on (trace_of (g.V.Solver.does l.planner.solver.now) l.planner.problem.now l.pools.lists) [] 0 l.scenarios;
  known : All (AreKnown l.planner.problem.now) l.traces;
}
