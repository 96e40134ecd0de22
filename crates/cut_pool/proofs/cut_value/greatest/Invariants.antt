use Rattle.std.proofs.Common.{◌≡◌, ◌^◌, ◌<◌, pos, ◌≤ℤ◌, drop, length}
use Rattle.theory.specs.Size.{magnitude}
use Rattle.theory.specs.Bound.{greatest_cut_value}
use Rattle.cut_pool.proofs.cut_value.greatest.Given as goal

abbrev pub invariant-loop-i : goal.invariant-loop-i
invariant-loop-i l = record {
  inside : l.i < length l.cuts;
  value : l.best ≡ greatest_cut_value (drop l.i l.cuts) l.state;
  small : magnitude l.best ≤ℤ pos (2 ^ 104);
}

abbrev pub decreases-loop-i : goal.decreases-loop-i
decreases-loop-i l = l.i
