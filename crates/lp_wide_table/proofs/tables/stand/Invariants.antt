use Rattle.std.proofs.Common.{◌≡◌, ◌++◌, take, drop, map, length}
use Rattle.lp_scale.specs.Scaling.{is_below_zero}
use Rattle.lp_wide_table.proofs.tables.stand.Given as goal

abbrev pub invariant-loop-j : goal.invariant-loop-j
invariant-loop-j l = record {
  count : length l.high ≡ length l.fn.high;
  value : l.high ≡ take l.j (map is_below_zero l.reduced) ++ drop l.j l.fn.high;
}
