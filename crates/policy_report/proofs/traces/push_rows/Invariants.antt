use Rattle.std.proofs.Common.{◌≡◌, ◌++◌, drop}
use Rattle.policy_report.specs.Lines.{numbered}
use Rattle.policy_report.specs.Traces.{row_line}
use Rattle.policy_report.proofs.traces.push_rows.Given as goal

abbrev pub invariant-loop-row : goal.invariant-loop-row
invariant-loop-row l = l.out.items ++ numbered row_line l.row (drop l.row l.residuals) ≡ l.initial.out.items ++ numbered row_line 0 l.residuals
