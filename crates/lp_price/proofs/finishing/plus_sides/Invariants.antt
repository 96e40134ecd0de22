use Rattle.std.proofs.Common.{◌≡◌, ◌≤◌, ◌+◌, ◌*◌, ◌^◌, nat_abs, drop}
use Rattle.lp_price.specs.Finish.{sides_from}
use Rattle.lp_price.proofs.finishing.plus_sides.Given as goal

abbrev pub invariant-loop-j : goal.invariant-loop-j
invariant-loop-j l = record {
  value : sides_from l.table 0 l.fn.sum l.nonbasic ≡ sides_from l.table l.j l.sum (drop l.j l.nonbasic);
  small : nat_abs l.sum ≤ (1199 + l.j) * 2 ^ 115;
}
