use Rattle.std.proofs.Common.{◌^◌, ◌<◌, ℕ, pos, ◌*ℤ◌, ◌≤ℤ◌}
use Rattle.base_num.specs.Sums.{entry}
use Rattle.lp_scan.proofs.packed.are_inside.Given as goal

abbrev pub invariant-loop-k : goal.invariant-loop-k
invariant-loop-k l = record {
  above : (j : ℕ) → j < l.k → (entry l.lows j *ℤ pos (2 ^ 24)) ≤ℤ entry l.states j;
  below : (j : ℕ) → j < l.k → entry l.states j ≤ℤ (entry l.highs j *ℤ pos (2 ^ 24));
}
