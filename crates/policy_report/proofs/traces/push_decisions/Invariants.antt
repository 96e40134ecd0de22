use Rattle.std.proofs.Common.{◌≡◌, ◌++◌, drop}
use Rattle.policy_report.specs.Traces.{value_lines}
use Rattle.policy_report.proofs.traces.push_decisions.Given as goal

abbrev pub invariant-loop-i : goal.invariant-loop-i
invariant-loop-i l = l.out.items ++ value_lines (drop l.i l.decisions) (drop l.i l.numbers) ≡ l.initial.out.items ++ value_lines l.decisions l.numbers
