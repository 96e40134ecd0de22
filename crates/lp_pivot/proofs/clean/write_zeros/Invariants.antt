use Rattle.std.proofs.Common.{◌≡◌, pos, length, take, replicate}
use Rattle.lp_pivot.proofs.clean.write_zeros.Given as goal

abbrev pub invariant-loop-v : goal.invariant-loop-v
invariant-loop-v l = record {
  count : length l.values ≡ length l.fn.values;
  done : take l.v l.values ≡ replicate l.v (pos 0);
}
