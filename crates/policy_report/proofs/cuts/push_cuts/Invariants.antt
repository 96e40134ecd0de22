use Rattle.std.proofs.Common.{◌≡◌, ◌++◌, drop}
use Rattle.policy_report.specs.Lines.{numbered}
use Rattle.policy_report.specs.Report.{node_cuts}
use Rattle.policy_report.proofs.cuts.push_cuts.Given as goal

abbrev pub invariant-loop-node : goal.invariant-loop-node
invariant-loop-node l = l.out.items ++ numbered node_cuts l.node (drop l.node l.pools.lists) ≡ l.initial.out.items ++ numbered node_cuts 0 l.pools.lists
