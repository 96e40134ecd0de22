use Rattle.std.proofs.Common.{◌≡◌, ◌≤◌, ◌*◌, ◌^◌, ℕ, ℤ, ◌*ℤ◌, nat_abs, take}
use Rattle.base_num.specs.Sums.{total, entry}
use Rattle.lp_pivot.proofs.sums.shares.Given as goal

abbrev pub invariant-loop-k : goal.invariant-loop-k
invariant-loop-k l = record {
  value : l.sum ≡ total (λ (s : ℕ × ℤ). s.1 *ℤ entry l.line s.0) (take l.k l.shifts);
  small : nat_abs l.sum ≤ l.k * 2 ^ 116;
}
