use Rattle.std.proofs.Common.{◌≡◌, ℕ, ◌<◌, ◌≤◌, pos, nat_abs, max, length}
use Rattle.base_num.specs.Sums.{entry}
use Rattle.cut_pool.proofs.slope_range.raise.Given as goal

abbrev pub invariant-loop-j : goal.invariant-loop-j
invariant-loop-j l = record {
  count : length l.greatest ≡ length l.fn.greatest;
  done : (i : ℕ) → i < l.j → entry l.greatest i ≡ pos (max (nat_abs (entry l.fn.greatest i)) (nat_abs (entry l.slopes i)));
  rest : (i : ℕ) → l.j ≤ i → entry l.greatest i ≡ entry l.fn.greatest i;
}
