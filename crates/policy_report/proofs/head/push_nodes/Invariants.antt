use Rattle.std.proofs.Common.{◌≡◌, ◌++◌, drop}
use Rattle.std.specs.Io.{StartsWith}
use Rattle.policy_report.specs.Lines.{numbered}
use Rattle.policy_report.specs.Report.{node_line}
use Rattle.policy_report.proofs.head.push_nodes.Given as goal

abbrev pub invariant-loop-i : goal.invariant-loop-i
invariant-loop-i l =
    (l.out.items ++ numbered node_line l.i (drop l.i l.node-items) ≡ l.initial.out.items ++ numbered node_line 0 l.node-items)
    × StartsWith l.out.items l.initial.out.items
