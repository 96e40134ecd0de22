use Rattle.std.proofs.Common.{◌≡◌, ◌++◌, take}
use Rattle.std.specs.List.{flat_map}
use Rattle.policy_evaluate.specs.Report.{branch_line}
use Rattle.policy_evaluate.proofs.report.push_branches.Given as goal

abbrev pub invariant-loop-step : goal.invariant-loop-step
invariant-loop-step l = l.out.items ≡ l.initial.out.items ++ flat_map branch_line (take l.step-index l.branches)
