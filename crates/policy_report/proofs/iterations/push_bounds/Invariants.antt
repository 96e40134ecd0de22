use Rattle.std.proofs.Common.{◌≡◌, ◌++◌, drop}
use Rattle.policy_report.specs.Lines.{numbered}
use Rattle.policy_report.specs.Report.{iteration_after}
use Rattle.policy_report.proofs.iterations.push_bounds.Given as goal

abbrev pub invariant-loop-i : goal.invariant-loop-i
invariant-loop-i l = l.out.items ++ numbered iteration_after l.i (drop l.i l.bounds) ≡ l.initial.out.items ++ numbered iteration_after 0 l.bounds
