use Rattle.std.proofs.Common.{◌≡◌, ◌≤◌, ◌*◌, ◌^◌, ℕ, ℤ, ◌*ℤ◌, nat_abs, take}
use Rattle.base_num.specs.Sums.{total, entry}
use Rattle.lp_pivot.proofs.sums.terms_at.Given as goal

abbrev pub invariant-loop-k : goal.invariant-loop-k
invariant-loop-k l = record {
  value : l.sum ≡ total (λ (t : ℕ × ℤ). t.1 *ℤ entry l.x t.0) (take l.k l.terms);
  small : nat_abs l.sum ≤ l.k * 2 ^ 95;
}
