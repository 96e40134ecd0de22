use Rattle.std.proofs.Common.{ℕ, ◌≤◌, ◌<◌, nat_abs}
use Rattle.base_num.specs.Sums.{entry}
use Rattle.cut_check.proofs.size.tally.greatest_slope.Given as goal

abbrev pub invariant-loop-k : goal.invariant-loop-k
invariant-loop-k l = record {
  least : l.fn.least ≤ l.greatest;
  slopes : (k : ℕ) → k < l.k → nat_abs (entry l.slopes k) ≤ l.greatest;
}
