use Rattle.std.proofs.Common.{◌≡◌, ◌≤◌, ◌^◌, drop, nat_abs}
use Rattle.plan_stage.specs.Stage.{most_from}
use Rattle.plan_stage.proofs.cut_values.most_from.Given as goal

abbrev pub invariant-loop-cut : goal.invariant-loop-cut
invariant-loop-cut l = record {
  value : most_from l.subproblem l.most (drop l.cut-index l.cuts) ≡ most_from l.subproblem l.first l.cuts;
  small : nat_abs l.most ≤ 2 ^ 110;
}
