use Rattle.std.proofs.Common.{◌≡◌, ◌++◌, drop}
use Rattle.policy_report.specs.Lines.{numbered}
use Rattle.policy_robust.specs.Report.{risk_cut_line}
use Rattle.policy_robust.proofs.report.push_node_risk_cuts.Given as goal

abbrev pub invariant-loop-place : goal.invariant-loop-place
invariant-loop-place l = l.out.items ++ numbered (risk_cut_line l.node) l.place (drop l.place l.risk_cuts) ≡ l.initial.out.items ++ numbered (risk_cut_line l.node) 0 l.risk_cuts
