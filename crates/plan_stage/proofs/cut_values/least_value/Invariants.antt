use Rattle.std.proofs.Common.{◌≡◌, ◌≤◌, ◌^◌, ◌*◌, ◌+◌, ◌+ℤ◌, nat_abs}
use Rattle.std.specs.Int.{int_min}
use Rattle.base_num.specs.Sums.{sum_to}
use Rattle.plan_stage.specs.Stage.{at_low, at_high}
use Rattle.plan_stage.proofs.cut_values.least_value.Given as goal

abbrev pub invariant-loop-k : goal.invariant-loop-k
invariant-loop-k l = record {
  value : l.value ≡ l.cut.alpha +ℤ sum_to l.k (λ j. int_min (at_low l.subproblem l.cut j) (at_high l.subproblem l.cut j));
  small : nat_abs l.value ≤ (l.k + 1) * 2 ^ 104;
}
