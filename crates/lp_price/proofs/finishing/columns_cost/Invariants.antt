use Rattle.std.proofs.Common.{◌≡◌, ◌≤◌, ◌*◌, ◌^◌, pos, nat_abs, drop}
use Rattle.lp_price.specs.Finish.{columns_from}
use Rattle.lp_price.proofs.finishing.columns_cost.Given as goal

abbrev pub invariant-loop-v : goal.invariant-loop-v
invariant-loop-v l = record {
  value : columns_from l.table 0 (pos 0) l.costs ≡ columns_from l.table l.v l.sum (drop l.v l.costs);
  small : nat_abs l.sum ≤ l.v * 2 ^ 115;
}
