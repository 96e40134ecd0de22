use Rattle.std.proofs.Common.{◌≡◌, ◌+◌, ◌*◌, ◌^◌, ◌≤◌, nat_abs, drop}
use Rattle.lp_scale.specs.Walks.{walk}
use Rattle.lp_scan.specs.Values.{plus_slope}
use Rattle.lp_scan.proofs.values.plus_slopes.Given as goal

abbrev pub invariant-loop-k : goal.invariant-loop-k
invariant-loop-k l = record {
  value : walk (λ k s t. plus_slope l.states s t) 0 l.start l.slopes ≡ walk (λ k s t. plus_slope l.states s t) l.k l.sum (drop l.k l.slopes);
  small : nat_abs l.sum ≤ 2 ^ 124 + l.k * 2 ^ 120;
}
