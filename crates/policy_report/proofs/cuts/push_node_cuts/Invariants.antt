use Rattle.std.proofs.Common.{◌≡◌, ◌++◌, drop}
use Rattle.policy_report.specs.Lines.{numbered}
use Rattle.policy_report.specs.Report.{cut_line}
use Rattle.policy_report.proofs.cuts.push_node_cuts.Given as goal

abbrev pub invariant-loop-place : goal.invariant-loop-place
invariant-loop-place l = l.out.items ++ numbered (cut_line l.node) l.place (drop l.place l.cuts) ≡ l.initial.out.items ++ numbered (cut_line l.node) 0 l.cuts
