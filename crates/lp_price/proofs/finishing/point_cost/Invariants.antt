use Rattle.std.proofs.Common.{◌≡◌, ◌≤◌, ◌*◌, ◌^◌, pos, nat_abs, drop}
use Rattle.lp_price.specs.Finish.{products_from}
use Rattle.lp_price.proofs.finishing.point_cost.Given as goal

abbrev pub invariant-loop-j : goal.invariant-loop-j
invariant-loop-j l = record {
  value : products_from (pos 0) l.costs l.values ≡ products_from l.sum (drop l.j l.costs) (drop l.j l.values);
  small : nat_abs l.sum ≤ l.j * 2 ^ 115;
}
