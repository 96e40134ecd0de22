use Rattle.std.proofs.Common.{◌≡◌, ℕ, ◌<◌, ◌≤◌, ◌+◌, ◌*◌, length, get_or}
use Rattle.lp_scan.proofs.bounds.lower.Given as goal

abbrev pub invariant-loop-k : goal.invariant-loop-k
invariant-loop-k l = record {
  count : length l.bounds ≡ length l.fn.bounds;
  done : (i : ℕ) → i < l.k → get_or l.fn.bounds i 0 ≤ get_or l.bounds i 0 + get_or l.third.steeps.now i 0 * l.third.state + get_or l.second.steeps.now i 0 * l.second.state + get_or l.first.steeps.now i 0 * l.first.state;
  rest : (i : ℕ) → l.k ≤ i → get_or l.bounds i 0 ≡ get_or l.fn.bounds i 0;
}
