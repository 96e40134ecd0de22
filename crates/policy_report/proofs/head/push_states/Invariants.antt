use Rattle.std.proofs.Common.{◌≡◌, ◌++◌, drop}
use Rattle.std.specs.Io.{StartsWith}
use Rattle.policy_report.specs.Lines.{numbered}
use Rattle.policy_report.specs.Report.{state_line}
use Rattle.policy_report.proofs.head.push_states.Given as goal

abbrev pub invariant-loop-i : goal.invariant-loop-i
invariant-loop-i l =
    (l.out.items ++ numbered state_line l.i (drop l.i l.state-items) ≡ l.initial.out.items ++ numbered state_line 0 l.state-items)
    × StartsWith l.out.items l.initial.out.items
