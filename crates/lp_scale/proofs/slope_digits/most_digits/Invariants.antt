use Rattle.std.proofs.Common.{◌≡◌, ◌≤ℤ◌, ℕ, ℤ, pos, drop}
use Rattle.base_num.specs.Sums.{entry}
use Rattle.lp_scale.specs.Walks.{walk}
use Rattle.lp_scale.specs.Packed.{greater_digits, most_digits}
use Rattle.lp_scale.proofs.slope_digits.most_digits.Given as goal

abbrev pub invariant-loop-state : goal.invariant-loop-state
invariant-loop-state l = record {
  least : pos 0 ≤ℤ l.most;
  greatest : l.most ≤ℤ pos 640;
  value : most_digits l.lifts l.slopes ≡ walk (λ k most (x : ℕ × ℤ). greater_digits most x.1 (entry l.slopes x.0)) l.state-index l.most (drop l.state-index l.lifts);
}
