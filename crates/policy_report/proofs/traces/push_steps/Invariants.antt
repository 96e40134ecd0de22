use Rattle.std.proofs.Common.{◌≡◌, ◌++◌, drop}
use Rattle.policy_report.specs.Lines.{numbered}
use Rattle.policy_report.specs.Traces.{trace_step_text}
use Rattle.policy_report.proofs.traces.push_steps.Given as goal

abbrev pub invariant-loop-stage : goal.invariant-loop-stage
invariant-loop-stage l = l.out.items ++ numbered (trace_step_text l.problem) l.stage (drop l.stage l.steps) ≡ l.initial.out.items ++ numbered (trace_step_text l.problem) 0 l.steps
