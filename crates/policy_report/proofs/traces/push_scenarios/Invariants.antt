use Rattle.std.proofs.Common.{◌≡◌, ◌++◌, drop}
use Rattle.policy_report.specs.Lines.{numbered}
use Rattle.policy_report.specs.Traces.{scenario_text}
use Rattle.policy_report.proofs.traces.push_scenarios.Given as goal

abbrev pub invariant-loop-scenario : goal.invariant-loop-scenario
invariant-loop-scenario l = l.out.items ++ numbered (scenario_text l.problem) l.scenario (drop l.scenario l.traces) ≡ l.initial.out.items ++ numbered (scenario_text l.problem) 0 l.traces
