use Rattle.std.proofs.Common.{◌≡◌, ◌++◌, drop}
use Rattle.policy_report.specs.Lines.{numbered}
use Rattle.policy_robust.specs.Report.{node_risk_cuts}
use Rattle.policy_robust.proofs.report.push_risk_cuts.Given as goal

abbrev pub invariant-loop-node : goal.invariant-loop-node
invariant-loop-node l = l.out.items ++ numbered node_risk_cuts l.node (drop l.node l.risk_cuts.lists) ≡ l.initial.out.items ++ numbered node_risk_cuts 0 l.risk_cuts.lists
