use Rattle.std.proofs.Common.{ℕ, ◌<◌, ◌≤◌, nat_abs}
use Rattle.base_num.specs.Sums.{entry}
use Rattle.cut_pool.proofs.slope_range.has_no_greater.Given as goal

abbrev pub invariant-loop-j : goal.invariant-loop-j
invariant-loop-j l = (i : ℕ) → i < l.j → nat_abs (entry l.slopes i) ≤ nat_abs (entry l.others i)
