use Rattle.std.proofs.Common.{◌≡◌, ◌+◌, ◌*◌, ◌^◌, ◌≤◌, ◌+ℤ◌, ◌*ℤ◌, pos, nat_abs, drop}
use Rattle.base_num.specs.Sums.{dot}
use Rattle.lp_scan.proofs.values.packed_value.Given as goal

abbrev pub invariant-loop-k : goal.invariant-loop-k
invariant-loop-k l = record {
  value : l.height *ℤ pos (2 ^ 24) +ℤ dot l.slopes l.leaving ≡ l.sum +ℤ dot (drop l.k l.slopes) (drop l.k l.leaving);
  small : nat_abs l.sum ≤ 2 ^ 124 + l.k * 2 ^ 120;
}
