use Rattle.std.proofs.Common.{◌≡◌, ◌++◌, drop}
use Rattle.policy_report.specs.Traces.{random_lines}
use Rattle.policy_report.proofs.traces.push_values.Given as goal

abbrev pub invariant-loop-i : goal.invariant-loop-i
invariant-loop-i l = l.out.items ++ random_lines (drop l.i l.randoms) (drop l.i l.values) ≡ l.initial.out.items ++ random_lines l.randoms l.values
