use Rattle.std.proofs.Common.{ℕ, ◌≤◌, ◌<◌, nat_abs}
use Rattle.base_num.specs.Sums.{entry}
use Rattle.cut_check.proofs.size.bound.greatest_value.Given as goal

abbrev pub invariant-loop-t : goal.invariant-loop-t
invariant-loop-t l = record {
  least : l.fn.least ≤ l.greatest;
  values : (t : ℕ) → t < l.t → nat_abs (entry l.values t) ≤ l.greatest;
}
