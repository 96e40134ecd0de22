use Rattle.std.proofs.Common.{◌≡◌, ◌++◌, drop}
use Rattle.policy_report.specs.Traces.{in_lines}
use Rattle.policy_report.proofs.traces.push_state.Given as goal

abbrev pub invariant-loop-i : goal.invariant-loop-i
invariant-loop-i l = l.out.items ++ in_lines (drop l.i l.states) (drop l.i l.numbers) ≡ l.initial.out.items ++ in_lines l.states l.numbers
