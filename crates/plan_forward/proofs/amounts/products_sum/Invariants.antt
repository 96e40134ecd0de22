use Rattle.std.proofs.Common.{◌≡◌, ◌≤◌, ◌^◌, ◌*◌, ◌*ℤ◌, nat_abs}
use Rattle.base_num.specs.Sums.{entry, sum_to}
use Rattle.plan_forward.proofs.amounts.products_sum.Given as goal

abbrev pub invariant-loop-i : goal.invariant-loop-i
invariant-loop-i g l = record {
  value : l.total ≡ sum_to l.i (λ j. entry (g.F.Factors.factors l.factors) j *ℤ entry (g.N.Amounts.numbers l.numbers) j);
  small : nat_abs l.total ≤ l.i * 2 ^ 104;
}
