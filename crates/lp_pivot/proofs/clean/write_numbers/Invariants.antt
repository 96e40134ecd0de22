use Rattle.std.proofs.Common.{◌≡◌, ◌<◌, ℕ, length, get_or}
use Rattle.lp_pivot.proofs.clean.write_numbers.Given as goal

abbrev pub invariant-loop-j : goal.invariant-loop-j
invariant-loop-j l = record {
  count : length l.nonbasic ≡ length l.fn.nonbasic;
  done : (k : ℕ) → k < l.j → get_or l.nonbasic k 0 ≡ k;
}
