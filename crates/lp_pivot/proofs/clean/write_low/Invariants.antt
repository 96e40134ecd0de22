use Rattle.std.proofs.Common.{◌≡◌, false, length, take, replicate}
use Rattle.lp_pivot.proofs.clean.write_low.Given as goal

abbrev pub invariant-loop-j : goal.invariant-loop-j
invariant-loop-j l = record {
  count : length l.high ≡ length l.fn.high;
  done : take l.j l.high ≡ replicate l.j false;
}
