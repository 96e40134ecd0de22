use Rattle.std.proofs.Common.{◌≡◌, length, drop}
use Rattle.lp_pivot.specs.Pivot.{flipped}
use Rattle.lp_pivot.proofs.pivots.flip.Given as goal

abbrev pub invariant-loop-k : goal.invariant-loop-k
invariant-loop-k l = record {
  count : length l.high ≡ length l.fn.high;
  high : flipped l.fn.high l.flips ≡ flipped l.high (drop l.k l.flips);
}
